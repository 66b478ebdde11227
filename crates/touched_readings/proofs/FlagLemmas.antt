-- Flags that are cleared.
use Rattle.std.proofs.Common.{◌≡◌, ℕ, zero, suc, ◌<◌, ◌≤◌, Bool, true, false, ◌&&◌, ◌||◌, nat_eq, Option, Some, List, [], ◌∷◌, length, set, refl, arith}
use Rattle.std.specs.Prelude.{not}
use Rattle.std.proofs.lemmas.Bool.Decides.{nat_tests}
use Rattle.fact_kinds.specs.Named.{is_numbered}
use Rattle.touched_readings.specs.Flags.{flag_of}

-- a flag that is cleared
pub flag_set : (flags : List Bool) (i n : ℕ) → i < length flags → flag_of (set flags i false) n ≡ (flag_of flags n && not (nat_eq i n))
flag_set [] i n within = absurd (omega (arith, within))
flag_set (f ∷ flags) zero zero within = grind (arith, nat_tests)
flag_set (f ∷ flags) zero (suc n) within = let other : nat_eq zero (suc n) ≡ false = grind (arith, nat_tests) in rw other grind arith
flag_set (f ∷ flags) (suc i) zero within = let other : nat_eq (suc i) zero ≡ false = grind (arith, nat_tests) in rw other grind arith
flag_set (f ∷ flags) (suc i) (suc n) within =
    let same : nat_eq (suc i) (suc n) ≡ nat_eq i n = grind (arith, nat_tests) in
    rw same (flag_set flags i n (omega (arith, within)))

-- .. and one that is not there
pub flag_past : (flags : List Bool) (i n : ℕ) → length flags ≤ i → flag_of flags n ≡ (flag_of flags n && not (nat_eq i n))
flag_past [] i n past = refl
flag_past (f ∷ flags) zero n past = absurd (omega (arith, past))
flag_past (f ∷ flags) (suc i) zero past = let other : nat_eq (suc i) zero ≡ false = grind (arith, nat_tests) in rw other grind arith
flag_past (f ∷ flags) (suc i) (suc n) past =
    let same : nat_eq (suc i) (suc n) ≡ nat_eq i n = grind (arith, nat_tests) in
    rw same (flag_past flags i n (omega (arith, past)))

three_gone : (a b c d : Bool) → ((a && not b) && not c) && not d ≡ (a && not (c || (b || d)))
three_gone false b c d = refl
three_gone true false false d = refl
three_gone true true false d = refl
three_gone true b true d = grind arith

-- what is left of a flag after it was cleared for an element, for those before it and for those after it
pub all_gone : (old one two three here front back all : Bool) → one ≡ (old && not here) → two ≡ (one && not front) → three ≡ (two && not back)
    → all ≡ (front || (here || back)) → three ≡ (old && not all)
all_gone old one two three here front back all first second third is = rw (third, second, first, is) (three_gone old here front back)

-- the number of a component as a place
pub numbered_as : (flag : Bool) (component : Option ℕ) (number at n : ℕ) → component ≡ Some number → at ≡ number
    → (flag && not (nat_eq at n)) ≡ (flag && not (is_numbered component n))
numbered_as flag component number at n is same = rw (is, same) refl
