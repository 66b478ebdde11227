-- Consecutive quarters, by the days on which they are judged.
use Rattle.std.specs.Prelude.{if◌then◌else◌}
use Rattle.std.proofs.Common.{◌≡◌, ℕ, ◌+◌, ◌-◌, ◌*◌, ◌/◌, ◌<◌, ◌≤◌, Bool, true, false, nat_lt, Some, None, List, refl, arith}
use Rattle.std.proofs.lemmas.Bool.{ltb-false}
use Rattle.ldar_days.specs.Calendar.{IsDay, month_of}
use Rattle.ldar_days.specs.Quarters.{first_quarter, quarter_of}
use Rattle.ldar_days.proofs.Months.{first_day-le, first_day-lt, month_of-is, month_of-month}
use Rattle.ldar_days.proofs.Quarters.{first_quarter-month}
use Rattle.fact_kinds.specs.declared.class.Class.{Class}
use Rattle.fact_kinds.specs.declared.key.Key.{Key}
use Rattle.ldar_law.specs.declared.equipment.Equipment.{Equipment}
use Rattle.ldar_law.specs.declared.numbers.TheConstants.{LAST_FACT_DAY}
use Rattle.ldar_law.specs.Percent.{judging_day}
use Rattle.skip_periods.specs.Counting.{CountsFrom}
use Rattle.skip_periods.specs.declared.counting.Counting.{Counting}

-- a later quarter is not judged on an earlier day
pub judged_later : (startup day quarter later : ℕ) → IsDay startup → startup ≤ LAST_FACT_DAY → quarter ≤ later →
    judging_day startup quarter day ≤ judging_day startup later day
judged_later startup day quarter later is_day by on =
    let first = first_quarter startup in
    let in_range = (first_quarter-month startup is_day by).0 in
    let ends = (first_day-le (first + 3 * quarter - 1) (first + 3 * later - 1) (omega (arith, in_range)) (omega (arith, on))).1 in
    omega (arith, ends)

-- what holds from a quarter on holds from the next one on
pub counts_on : (item : Equipment) (classes : List (Key × Class)) (startup day quarter : ℕ) (counting : Counting) → IsDay startup → startup ≤ LAST_FACT_DAY →
    CountsFrom item classes startup day quarter counting → CountsFrom item classes startup day (quarter + 1) counting
counts_on item classes startup day quarter counting is_day by from = record {
  after = from.after;
  front = λ k e entered. omega (arith, from.front k e entered, judged_later startup day quarter (quarter + 1) is_day by (omega arith));
}

-- a number in an option that a failing test returns
told_where_not : (test : Bool) (told number : ℕ) → (if test then None else Some number) ≡ Some told → (test ≡ false) × (told ≡ number)
told_where_not true told number is = cc
told_where_not false told number is = (refl, cc)

module _ (startup day number : ℕ) (is_day : IsDay startup) (by : startup ≤ LAST_FACT_DAY) (is_number : IsDay number) where
  -- a quarter that does not end before the month of a day is judged on that day or later
  pub judged_on : (quarter : ℕ) → number ≤ day → month_of number < first_quarter startup + 3 * quarter → number ≤ judging_day startup quarter day
  judged_on quarter seen on =
      let month = month_of-month number is_number in
      let ends = (first_day-le (month_of number) (first_quarter startup + 3 * quarter - 1) (omega (arith, month)) (omega (arith, on))).1 in
      omega (arith, (month_of-is number is_number).1, ends, is_number)

  -- a quarter that ends before the month of a day is judged before that day
  pub judged_earlier : (quarter : ℕ) → first_quarter startup + 3 * quarter ≤ month_of number → judging_day startup quarter day < number
  judged_earlier quarter before =
      let in_range = (first_quarter-month startup is_day by).0 in
      let ends = first_day-lt (first_quarter startup + 3 * quarter - 1) (month_of number) (omega (arith, in_range)) (omega (arith, before, in_range)) in
      omega (arith, (month_of-is number is_number).0, ends)

  -- the same, by the quarter of the day's month
  pub judged_by_quarter : (told : ℕ) → quarter_of startup (month_of number) ≡ Some told →
      (first_quarter startup ≤ month_of number) × (told ≡ (month_of number - first_quarter startup) / 3 + 1)
  judged_by_quarter told lies =
      let is = told_where_not (nat_lt (month_of number) (first_quarter startup)) told ((month_of number - first_quarter startup) / 3 + 1) lies in
      (ltb-false (month_of number) (first_quarter startup) is.0, is.1)
