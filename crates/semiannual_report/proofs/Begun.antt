-- A month has begun by a day if it is that of the day or an earlier one.
use Rattle.std.proofs.Common.{◌≡◌, ℕ, ◌≤◌, ◌<◌, nat_le, arith, inl, inr}
use Rattle.std.proofs.lemmas.Bool.{cases_lt}
use Rattle.std.proofs.lemmas.Bool.Decides.{nat_tests}
use Rattle.ldar_days.specs.Calendar.{IsDay, first_day, last_day, month_of, end_by}
use Rattle.ldar_days.proofs.Months.{first_day-le, first_day-lt, first_day-past, month_length_bounds, month_of-is, month_of-month}

-- an earlier month, or that of the day, begins by the day
begun_by : (month day : ℕ) → 24_096 ≤ month → IsDay day → month ≤ month_of day → first_day month ≤ day
begun_by month day low is_day by =
    let earlier = first_day-le month (month_of day) (omega arith) by in
    let inside = month_of-is day is_day in
    omega (arith, earlier.0, inside.0)

-- a later month begins after the day
begins_behind : (month day : ℕ) → IsDay day → month_of day < month → day < first_day month
begins_behind month day is_day behind =
    let in_calendar = month_of-month day is_day in
    let later = first_day-lt (month_of day) month (omega arith) behind in
    let inside = month_of-is day is_day in
    omega (arith, later, inside.1)

-- a month is not after the day's exactly if its first day is not after the day
pub begun_is : (month day : ℕ) → 24_096 ≤ month → IsDay day → nat_le month (month_of day) ≡ nat_le (first_day month) day
begun_is month day low is_day =
    elim (cases_lt (month_of day) month) [
      | inl behind ↦ let late = begins_behind month day is_day behind in grind (arith, nat_tests)
      | inr by ↦ let early = begun_by month day low is_day by in grind (arith, nat_tests)
    ]

-- the first day of a month past the calendar is cut to 2099-12-31
pub first_day-cut : (month : ℕ) → 25_199 < month → end_by (first_day month) ≡ 47_481
first_day-cut month past = omega (arith, first_day-past month (omega arith))

-- the last day of a month past the calendar is cut to 2099-12-31
pub last_day-cut : (month : ℕ) → 25_199 < month → end_by (last_day month) ≡ 47_481
last_day-cut month past = omega (arith, first_day-past month (omega arith), month_length_bounds month)

-- for the body of `has_month_begun`
pub ruleset begun = (begun_is, month_of-month)

-- for months past the calendar
pub ruleset past = (first_day-cut, last_day-cut)
