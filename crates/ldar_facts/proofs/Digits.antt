-- The first bytes as the digits of a number.
use Rattle.std.proofs.Common.{◌≡◌, ℕ, ◌<◌, ◌≤◌, true, false, List, [], ◌∷◌, ◌++◌, length, get_or, take, drop, Ok, Err, subst, inl, inr, arith}
use Rattle.std.proofs.lemmas.Bool.{cases_lt}
use Rattle.std.proofs.lemmas.List.{get_or_append_left, get_or_past}
use Rattle.ldar_facts.specs.Form.{IsBytes}
use Rattle.ldar_facts.specs.Number.{number_from, among, stop_of}
use Rattle.ldar_facts.proofs.NumberSteps.{value_from, stopped, read_whole, read_none, read_early}

-- a prefix of bytes is bytes
IsBytes-front : (bytes front rest : List ℕ) → bytes ≡ front ++ rest → IsBytes bytes → IsBytes front
IsBytes-front bytes front rest splits are i =
    elim (cases_lt i (length front)) [
      | inl lt ↦ subst (λ b. b < 256) (get_or_append_left front rest 0 i lt) (subst (λ (l : List ℕ). get_or l i 0 < 256) splits (are i))
      | inr past ↦ let none = get_or_past front i 0 past in omega arith
    ]

-- ---- a function that looks at all digits of a number at once

-- the digits of a number in the ranges are read as that number
pub whole : (digits rest bytes : List ℕ) (ranges : List (ℕ × ℕ)) (n : ℕ) → IsBytes bytes → bytes ≡ digits ++ rest → value_from 0 digits ≡ n
    → among ranges n ≡ true
    → number_from (length digits) ranges 0 bytes ≡ Ok (n, rest)
whole digits rest bytes ranges n are splits is h =
    rw splits (subst (λ v. number_from (length digits) ranges 0 (digits ++ rest) ≡ Ok (v, rest)) is
    (read_whole digits rest ranges 0 (IsBytes-front bytes digits rest splits are) (rw is h)))

-- the digits of a number outside the ranges end the reading
pub none : (b : ℕ) (digits rest bytes : List ℕ) (ranges : List (ℕ × ℕ)) (n : ℕ) → bytes ≡ b ∷ digits ++ rest → value_from 0 (b ∷ digits) ≡ n
    → among ranges n ≡ false
    → number_from (length (b ∷ digits)) ranges 0 bytes ≡ Err (stop_of (number_from (length (b ∷ digits)) ranges 0 bytes))
none b digits rest bytes ranges n splits is h =
    rw splits (stopped (number_from (length (b ∷ digits)) ranges 0 (b ∷ digits ++ rest)) (read_none b digits rest ranges 0 (rw is h)))

-- too few bytes for a number end the reading
pub early : (more : ℕ) (bytes : List ℕ) (ranges : List (ℕ × ℕ)) → length bytes < more
    → number_from more ranges 0 bytes ≡ Err (stop_of (number_from more ranges 0 bytes))
early more bytes ranges lt = stopped (number_from more ranges 0 bytes) (read_early more bytes ranges 0 lt)

-- ---- the first one, two or four bytes

-- one byte that was split off is before the rest
pub front_1 : (bytes front rest : List ℕ) → 1 ≤ length bytes → front ≡ take 1 bytes → rest ≡ drop 1 bytes → bytes ≡ get_or front 0 0 ∷ rest
front_1 [] front rest h f r = absurd (omega (arith, h))
front_1 (a ∷ bytes) front rest h f r = rw (f, r)

-- two bytes that were split off are before the rest
pub front_2 : (bytes front rest : List ℕ) → 2 ≤ length bytes → front ≡ take 2 bytes → rest ≡ drop 2 bytes → bytes ≡ get_or front 0 0 ∷ get_or front 1 0 ∷ rest
front_2 [] front rest h f r = absurd (omega (arith, h))
front_2 (a ∷ []) front rest h f r = absurd (omega (arith, h))
front_2 (a ∷ b ∷ bytes) front rest h f r = rw (f, r)

-- four bytes that were split off are before the rest
pub front_4 : (bytes front rest : List ℕ) → 4 ≤ length bytes → front ≡ take 4 bytes → rest ≡ drop 4 bytes
    → bytes ≡ get_or front 0 0 ∷ get_or front 1 0 ∷ get_or front 2 0 ∷ get_or front 3 0 ∷ rest
front_4 [] front rest h f r = absurd (omega (arith, h))
front_4 (a ∷ []) front rest h f r = absurd (omega (arith, h))
front_4 (a ∷ b ∷ []) front rest h f r = absurd (omega (arith, h))
front_4 (a ∷ b ∷ c ∷ []) front rest h f r = absurd (omega (arith, h))
front_4 (a ∷ b ∷ c ∷ d ∷ bytes) front rest h f r = rw (f, r)
