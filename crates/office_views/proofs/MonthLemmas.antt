-- A month has begun on a day where it is that of the day or an earlier one.
use Rattle.std.proofs.Common.{◌≡◌, ℕ, ◌≤◌, ◌<◌, nat_le, arith, inl, inr}
use Rattle.std.proofs.lemmas.Bool.{cases_lt}
use Rattle.std.proofs.lemmas.Bool.Decides.{nat_tests}
use Rattle.ldar_days.specs.Calendar.{IsDay, first_day, month_of}
use Rattle.ldar_days.proofs.Months.{first_day-le, first_day-lt, month_of-is, month_of-month}

-- an earlier month, or that of the day, begins by the day
begun_by : (month day : ℕ) → 24_096 ≤ month → IsDay day → month ≤ month_of day → first_day month ≤ day
begun_by month day low is_day by =
    let earlier = first_day-le month (month_of day) (omega arith) by in
    let inside = month_of-is day is_day in
    omega (arith, earlier.0, inside.0)

-- a later month begins after it
begins_behind : (month day : ℕ) → IsDay day → month_of day < month → day < first_day month
begins_behind month day is_day behind =
    let in_calendar = month_of-month day is_day in
    let later = first_day-lt (month_of day) month (omega arith) behind in
    let inside = month_of-is day is_day in
    omega (arith, later, inside.1)

-- months go by their first days
pub begun_is : (month day : ℕ) → 24_096 ≤ month → IsDay day → nat_le month (month_of day) ≡ nat_le (first_day month) day
begun_is month day low is_day =
    elim (cases_lt (month_of day) month) [
      | inl behind ↦ let late = begins_behind month day is_day behind in grind (arith, nat_tests)
      | inr by ↦ let early = begun_by month day low is_day by in grind (arith, nat_tests)
    ]

-- a day's month compared with a month
pub ruleset begun = (begun_is, month_of-month)
