-- The first quarter of a process unit.
use Rattle.std.proofs.Common.{◌≡◌, ℕ, ◌+◌, ◌-◌, ◌*◌, ◌<◌, ◌≤◌, sym, inl, inr, arith}
use Rattle.std.proofs.lemmas.Bool.{cases_lt}
use Rattle.std.proofs.lemmas.Bool.Decides.{nat_tests}
use Rattle.ldar_days.specs.Calendar.{IsDay, IsMonth, first_day, last_day, month_of}
use Rattle.ldar_days.specs.Quarters.{last_whole, first_quarter, quarter_first, quarter_last, IsWithin180Days}
use Rattle.ldar_days.proofs.Months.{month_of-is, month_of-near, month_of-month, month_of-only, first_day-next, first_day-lt, first_day-le, first_day-past}
use Rattle.ldar_days.proofs.Months.{month_length_bounds, month_bounds}

-- if the day's month goes on after it, the month before is the last whole one
last_whole-more : (n : ℕ) → n < last_day (month_of n) → last_whole n ≡ month_of n - 1
unfolding last_whole
last_whole-more n h = grind (arith, nat_tests)

-- if the day's month ends on it, that month is the last whole one
last_whole-all : (n : ℕ) → last_day (month_of n) ≤ n → last_whole n ≡ month_of n
unfolding last_whole
last_whole-all n h = grind (arith, nat_tests)

-- the last whole month is the day's own or the one before
pub last_whole-near : (n : ℕ) → (month_of n ≤ last_whole n + 1) × (last_whole n ≤ month_of n)
unfolding last_whole
last_whole-near n = grind (arith, nat_tests)

-- the last whole month ends by the day, and the next one ends after it
pub last_whole-is : (n : ℕ) → IsDay n → (last_day (last_whole n) ≤ n) × (n < last_day (last_whole n + 1))
last_whole-is n h =
    let is = month_of-is n h in
    let month = month_of-month n h in
    let back : month_of n - 1 + 1 ≡ month_of n = omega arith in
    elim (cases_lt n (last_day (month_of n))) [
      | inl more ↦
          let before = rw back at (first_day-next (month_of n - 1) (omega arith)) in
          rw (last_whole-more n more, back) (omega (arith, month_length_bounds (month_of n - 1)), more)
      | inr whole ↦ rw (last_whole-all n whole) (omega arith, omega (arith, first_day-next (month_of n) (omega arith), month_length_bounds (month_of n + 1)))
    ]

-- 40 CFR 60.481a: the third month of quarter 1 is the last one all of whose days are within startup + 1 to startup + 180
pub first_quarter-is : (s : ℕ) → IsDay s → s ≤ 46_751 → (s < first_day (first_quarter s + 2)) × (last_day (first_quarter s + 2) ≤ s + 180) ×
    (s + 180 < last_day (first_quarter s + 3))
unfolding first_quarter
first_quarter-is s h in_range =
    let month = month_of-month (s + 180) (omega arith) in
    let near_it = last_whole-near (s + 180) in
    let third : last_whole (s + 180) - 2 + 2 ≡ last_whole (s + 180) = omega arith in
    let after : last_whole (s + 180) - 2 + 3 ≡ last_whole (s + 180) + 1 = omega arith in
    let is = last_whole-is (s + 180) (omega arith) in
    rw (third, after) (
      omega (
        arith,
        first_day-next (last_whole (s + 180)) (omega arith),
        month_length_bounds (last_whole (s + 180)),
        month_length_bounds
            (last_whole (s + 180) + 1),
      ),
      is.0,
      is.1,
    )

-- quarter 1 is in the calendar
pub first_quarter-month : (s : ℕ) → IsDay s → s ≤ 46_751 → IsMonth (first_quarter s) × IsMonth (first_quarter s + 2)
unfolding first_quarter
first_quarter-month s h in_range =
    let near_it = month_of-near (s + 180) in
    let last = last_whole-near (s + 180) in
    ((omega arith, omega arith), (omega arith, omega arith))

-- the third month of quarter 1 is within the 180 days
pub first_quarter-third : (s : ℕ) → IsDay s → s ≤ 46_751 → IsWithin180Days s (first_quarter s + 2)
first_quarter-third s h in_range = let is = first_quarter-is s h in_range in (omega arith, is.1)

-- no later month is within the 180 days
pub first_quarter-no_later : (s m : ℕ) → IsDay s → s ≤ 46_751 → IsMonth m → IsWithin180Days s m → m ≤ first_quarter s + 2
first_quarter-no_later s m h in_range month within =
    let is = first_quarter-is s h in_range in
    let first = first_quarter-month s h in_range in
    elim (cases_lt (first_quarter s + 2) m) [
      | inl later ↦ elim (cases_lt (first_quarter s + 3) m) [
        | inl more ↦ absurd (omega (arith, first_day-lt (first_quarter s + 3) m (omega arith) more, month_length_bounds m))
        | inr same ↦ let e : m ≡ first_quarter s + 3 = omega arith in absurd (omega (arith, rw e at within.1, is.2))
      ]
      | inr no_later ↦ no_later
    ]

-- the month of the day after is the one after the last whole month
pub month_of-next_day : (n : ℕ) → IsDay n → n ≤ 47_480 → month_of (n + 1) ≡ last_whole n + 1
month_of-next_day n h before_end =
    let month = month_of-month n h in
    let near_it = last_whole-near n in
    let is = last_whole-is n h in
    sym (month_of-only (n + 1) (last_whole n + 1) (omega arith) (omega arith)
    (omega (arith, first_day-next (last_whole n) (omega arith), month_length_bounds (last_whole n)), omega arith))

-- quarter 1 begins three months before the month of startup + 181
pub first_quarter-month_of : (s : ℕ) → IsDay s → s ≤ 46_751 → month_of (s + 181) ≡ first_quarter s + 3
unfolding first_quarter
first_quarter-month_of s h in_range =
    let month = month_of-month (s + 180) (omega arith) in
    let near_it = last_whole-near (s + 180) in
    let next : s + 180 + 1 ≡ s + 181 = omega arith in
    let is = rw next at (month_of-next_day (s + 180) (omega arith) (omega arith)) in
    omega arith

-- each day of a quarter's month is in the quarter
pub quarter-days : (s m q : ℕ) → IsMonth (first_quarter s) → IsMonth m → first_quarter s + 3 * q ≤ m + 3 → m < first_quarter s + 3 * q
    → (quarter_first s q ≤ first_day m) × (last_day m ≤ quarter_last s q)
quarter-days s m q first month low high =
    let begin = first_day-le (first_quarter s + 3 * q - 3) m (omega arith) (omega arith) in
    let end = first_day-le m (first_quarter s + 3 * q - 1) (omega arith) (omega arith) in
    let bounds = month_bounds m month in
    (omega (arith, begin.0), omega (arith, end.1))

-- the next quarter begins the day after the last day of a quarter
pub quarter_first-next : (s q : ℕ) → IsMonth (first_quarter s) → 1 ≤ q → quarter_last s q < 47_481 → quarter_first s (q + 1) ≡ quarter_last s q + 1
quarter_first-next s q first low within =
    let same : first_quarter s + 3 * (q + 1) - 3 ≡ first_quarter s + 3 * q - 1 + 1 = omega arith in
    rw same (omega (arith, first_day-next (first_quarter s + 3 * q - 1) (omega arith), month_length_bounds (first_quarter s + 3 * q - 1)))

-- for the bodies of the quarters' calls
pub ruleset quarters = (
  first_quarter-month_of,
  first_quarter-month,
  first_quarter-third,
  first_quarter-no_later,
  first_day-past,
  month_length_bounds,
  quarter-days,
  quarter_first-next,
)
