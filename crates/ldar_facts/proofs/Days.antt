-- A day of the table is a day of the calendar.
use Rattle.std.proofs.Common.{◌≡◌, ℕ, Option, Some, None, refl, inl, inr, arith}
use Rattle.std.specs.Prelude.{IsNone, IsSome, IfSome}
use Rattle.std.proofs.lemmas.Bool.{eq-eqb, ne_eqb}
use Rattle.ldar_days.specs.Calendar.{IsDay}
use Rattle.fact_kinds.specs.Fields.{IsAmong, days_or_none}
use Rattle.ldar_facts.specs.FieldForms.{expected_of}

-- `of_number` finds the day of a number in the calendar
pub is_some : (n : ℕ) (found : Option ℕ) → IsDay n → (IsNone found → IsDay n → ⊥) → IsSome found
is_some n (Some d) is_day none = refl
is_some n None is_day none = absurd (none refl is_day)

-- a day, or none at 0
pub expected : (n : ℕ) (found : Option ℕ) → IsAmong n days_or_none → (IsNone found → IsDay n → ⊥) → IfSome found (λ day. IsDay n × (day ≡ n))
    → expected_of n ≡ found
expected n (Some d) among none some = let positive = ne_eqb n 0 (λ is. omega (arith, some.0)) in rw (positive, some.1)
expected n None (inl zero) none some = let is : n ≡ 0 = omega (arith, zero) in rw (eq-eqb n 0 is)
expected n None (inr is_day) none some = absurd (none refl is_day)
