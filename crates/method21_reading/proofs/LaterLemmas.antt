-- Adding months keeps the order of days.
use Rattle.std.proofs.Common.{◌≡◌, ℕ, ◌+◌, ◌-◌, ◌≤◌, subst, inl, inr, arith}
use Rattle.std.proofs.lemmas.Bool.{cases_lt}
use Rattle.std.proofs.lemmas.Bool.Decides.{nat_tests}
use Rattle.ldar_days.specs.Calendar.{first_day, month_of, end_by, day_at, later_by}
use Rattle.ldar_days.proofs.Months.{first_day-lt, month_length_bounds}

-- the month of a later day is not earlier
month_rises : (a b : ℕ) → a ≤ b → month_of a ≤ month_of b
unfolding month_of
month_rises a b le = grind (arith, nat_tests)

-- no month is before January 1970
month_low : (n : ℕ) → 23_640 ≤ month_of n
unfolding month_of
month_low n = grind (arith, nat_tests)

-- for two days of the same month
place_rises : (m k a b : ℕ) → a ≤ b → end_by (day_at (m + k) (a - first_day m)) ≤ end_by (day_at (m + k) (b - first_day m))
place_rises m k a b le = omega (arith, le)

-- the sum of a later day is not earlier
pub later_rises : (k a b : ℕ) → a ≤ b → later_by k a ≤ later_by k b
later_rises k a b le =
    elim (cases_lt (month_of a) (month_of b)) [
      | inl lt ↦
          omega (arith, first_day-lt (month_of a + k) (month_of b + k) (omega (arith, month_low a)) (omega (arith, lt)), month_length_bounds (month_of a + k))
      | inr by ↦
          let same : month_of b ≡ month_of a = omega (arith, by, month_rises a b le) in
          subst (λ m. end_by (day_at (m + k) (a - first_day m)) ≤ later_by k b) same (place_rises (month_of b) k a b le)
    ]
