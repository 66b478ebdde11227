-- Facts about a function that looks at all digits of a number at once.
use Rattle.std.specs.Prelude.{◌≡◌, ℕ, zero, suc, ◌+◌, ◌*◌, ◌^◌, ◌<◌, true, false}
use Rattle.std.specs.Prelude.{List, [], ◌∷◌, ◌++◌, length, Ok, Err, refl}
use Rattle.std.proofs.Common.{sym, ◌∙◌, arith}
use Rattle.std.proofs.lemmas.Bool.{false≢true}
use Rattle.std.proofs.Math.Nat.{pow-suc}
use Rattle.ldar_facts.specs.declared.read_end.ReadEnd.TheVariants.{Wrong}
use Rattle.ldar_facts.specs.Form.{Outcome, IsBytes}
use Rattle.ldar_facts.specs.Number.{may_be, number_from, among, stop_of, IsIn, may_be-from, is_among, may_be-among, no_value, block_up}

-- the number continued by these digits
abbrev pub value_from : ℕ → List ℕ → ℕ
value_from n [] = n
value_from n (b ∷ digits) = value_from (n * 256 + b) digits

-- a number continued by digits begins with the number
value_in : (digits : List ℕ) (n : ℕ) → IsBytes digits → IsIn (256 ^ length digits) n (value_from n digits)
value_in [] n are = record { low = omega arith; high = omega arith }
value_in (b ∷ digits) n are = rw pow-suc
    (block_up (256 ^ length digits) n b (value_from (n * 256 + b) digits) (are 0) (value_in digits (n * 256 + b) (λ i. are (suc i))))

-- the digits of a number in the ranges are read
pub read_whole : (digits rest : List ℕ) (ranges : List (ℕ × ℕ)) (n : ℕ) → IsBytes digits → among ranges (value_from n digits) ≡ true
    → number_from (length digits) ranges n (digits ++ rest) ≡ Ok (value_from n digits, rest)
unfolding number_from
read_whole [] rest ranges n are h = refl
read_whole (b ∷ digits) rest ranges n are h =
    let behind : IsBytes digits = λ i. are (suc i) in
    let passes = may_be-from (length digits) (n * 256 + b) (value_from (n * 256 + b) digits) ranges (is_among ranges (value_from (n * 256 + b) digits) h)
    (value_in digits (n * 256 + b) behind) in
    rw passes (read_whole digits rest ranges (n * 256 + b) behind h)

-- a reading without a value ended for some reason
pub stopped : {A : Type 0} (r : Outcome A) → ((x : A × List ℕ) → r ≡ Ok x → ⊥) → r ≡ Err (stop_of r)
stopped (Ok x) h = absurd (h x refl)
stopped (Err stop) h = refl

-- the digits of a number outside the ranges have no value
pub read_none : (b : ℕ) (digits rest : List ℕ) (ranges : List (ℕ × ℕ)) (n : ℕ) → among ranges (value_from n (b ∷ digits)) ≡ false → (x : ℕ × List ℕ)
    → number_from (length (b ∷ digits)) ranges n (b ∷ digits ++ rest) ≡ Ok x → ⊥
unfolding number_from
read_none b [] rest ranges n h x e =
    let step = no_value (may_be 0 ranges (n * 256 + b)) (Ok (n * 256 + b, rest)) (Wrong (suc (length rest))) x e in
    false≢true (sym h ∙ may_be-among ranges (n * 256 + b) step.0)
read_none b (d ∷ digits) rest ranges n h x e =
    let bytes = d ∷ digits ++ rest in
    let step = no_value (may_be (suc (length digits)) ranges (n * 256 + b)) (number_from (suc (length digits)) ranges (n * 256 + b) bytes)
    (Wrong (suc (length bytes))) x e in
    read_none d digits rest ranges (n * 256 + b) h x step.1

-- too few digits have no value
pub read_early : (more : ℕ) (bytes : List ℕ) (ranges : List (ℕ × ℕ)) (n : ℕ) → length bytes < more → (x : ℕ × List ℕ)
    → number_from more ranges n bytes ≡ Ok x → ⊥
unfolding number_from
read_early zero bytes ranges n lt x e = absurd (omega (arith, lt))
read_early (suc more) [] ranges n lt x e = absurd cc
read_early (suc more) (b ∷ bytes) ranges n lt x e =
    let step = no_value (may_be more ranges (n * 256 + b)) (number_from more ranges (n * 256 + b) bytes) (Wrong (suc (length bytes))) x e in
    read_early more bytes ranges (n * 256 + b) (omega (arith, lt)) x step.1
