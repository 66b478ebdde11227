-- Sums of days and months: within the calendar they keep the day of the month, and past its end they are its last day.
use Rattle.std.proofs.Common.{◌≡◌, ℕ, ◌+◌, ◌-◌, ◌≤◌, min, inl, inr, refl, arith}
use Rattle.std.proofs.lemmas.Bool.{cases_lt}
use Rattle.ldar_days.specs.Calendar.{IsDay, IsMonth, month_length, month_of, place_of, day_at, later_by}
use Rattle.ldar_days.proofs.Months.{first_day-lt, first_day-le, first_day-past, month_length_bounds, month_bounds, month_of-is, month_of-month, month_of-day, place_bound}

-- the day at a place of a month is in that month
pub month_of-day_at : (m place : ℕ) → IsMonth m → month_of (day_at m place) ≡ m
month_of-day_at m place h =
    month_of-day m (min place (month_length m - 1)) h (omega (arith, month_length_bounds m))

-- the day at a place of a month has that place, or the month's last one
pub place_of-day_at : (m place : ℕ) → IsMonth m → place_of (day_at m place) ≡ min place (month_length m - 1)
place_of-day_at m place h = rw (month_of-day_at m place h) (omega arith)

-- the day at a place of a month is in the calendar if the month is
pub day_at_bounds : (m place : ℕ) → IsMonth m → IsDay (day_at m place)
day_at_bounds m place h =
    let bounds = month_bounds m h in
    let long = month_length_bounds m in
    (omega arith, omega arith)

-- a sum within the calendar is the day at a place of the later month
pub later_by-day_at : (k n : ℕ) → IsDay n → month_of n + k ≤ 25_199 → later_by k n ≡ day_at (month_of n + k) (place_of n)
later_by-day_at k n h within =
    let month = month_of-month n h in
    let day = day_at_bounds (month_of n + k) (place_of n) (omega arith, within) in
    omega arith

-- the sum's month is that many months later
pub month_of-later_by : (k n : ℕ) → IsDay n → month_of n + k ≤ 25_199 → month_of (later_by k n) ≡ month_of n + k
month_of-later_by k n h within =
    let month = month_of-month n h in
    rw (later_by-day_at k n h within) (month_of-day_at (month_of n + k) (place_of n) (omega arith, within))

-- the sum's place is that of the day, or the month's last
pub place_of-later_by : (k n : ℕ) → IsDay n → month_of n + k ≤ 25_199 → place_of (later_by k n) ≡ min (place_of n) (month_length (month_of n + k) - 1)
place_of-later_by k n h within =
    let month = month_of-month n h in
    rw (later_by-day_at k n h within) (place_of-day_at (month_of n + k) (place_of n) (omega arith, within))

-- a sum past the calendar is its last day
pub later_by-past : (k n : ℕ) → 25_200 ≤ month_of n + k → later_by k n ≡ 47_481
later_by-past k n past = omega (arith, first_day-past (month_of n + k) past)

-- adding more months than the calendar has changes nothing
pub later_by-until : (k n : ℕ) → IsDay n → later_by (min k 25_199) n ≡ later_by k n
later_by-until k n h =
    let month = month_of-month n h in
    elim (cases_lt k 25_200) [
      | inl within ↦ let same : min k 25_199 ≡ k = omega arith in rw same refl
      | inr more ↦
          let end = later_by-past k n (omega arith) in
          let end' = later_by-past (min k 25_199) n (omega arith) in
          rw (end, end') refl
    ]

-- a sum is not before the calendar
pub day_at-from : (k n : ℕ) → IsDay n → 13_879 ≤ day_at (month_of n + k) (place_of n)
day_at-from k n h =
    let month = month_of-month n h in
    let first = first_day-le (month_of n) (month_of n + k) (omega arith) (omega arith) in
    omega (arith, month_bounds (month_of n) month)

-- a sum is in the calendar, and not before its day
pub later_by_bounds : (k n : ℕ) → IsDay n → IsDay (later_by k n) × (n ≤ later_by k n)
later_by_bounds k n h =
    let month = month_of-month n h in
    let is = month_of-is n h in
    let here = place_bound n h in
    elim (cases_lt (month_of n + k) 25_200) [
      | inl within ↦
          let sum = later_by-day_at k n h (omega arith) in
          let day = day_at_bounds (month_of n + k) (place_of n) (omega arith, omega arith) in
          elim (cases_lt 0 k) [
            | inl later ↦ (rw sum day, omega (arith, first_day-lt (month_of n) (month_of n + k) (omega arith) (omega arith)))
            | inr none ↦
                let same : month_of n + k ≡ month_of n = omega arith in
                (rw sum day, rw (sum, same) (omega arith))
          ]
      | inr past ↦ let sum = later_by-past k n past in ((omega arith, omega arith), omega arith)
    ]

-- for the body of `Day::plus_months`
pub ruleset sums = (month_of-later_by, place_of-later_by, later_by-past, month_length_bounds)
