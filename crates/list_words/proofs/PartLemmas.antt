use Rattle.std.proofs.Common.{◌≡◌, ℕ, zero, suc, ◌+◌, ◌-◌, ◌*◌, ◌<◌, ◌≤◌, true, cond, nat_lt, Some, None, List, [], ◌∷◌, ◌++◌, length, take, drop}
use Rattle.std.proofs.Common.{slice_get, refl, ap, ◌∙◌, arith}
use Rattle.std.specs.List.{flat_map}
use Rattle.std.proofs.lemmas.Bool.{lt-ltb}
use Rattle.std.proofs.lemmas.Bool.Decides.{nat_tests}
use Rattle.std.proofs.lemmas.List.{length-drop, drop-drop, take-append-drop}
use Rattle.list_words.specs.Parts.{cut_up_to, cut, CutHasParts, CutJoins}

-- the rest after a part is shorter than the list
shorter : {X : Type 0} (most n : ℕ) (x : X) (xs : List X) → 0 < n → length (x ∷ xs) ≤ suc most → length (drop n (x ∷ xs)) ≤ most
shorter most n x xs some bound = omega (arith, length-drop n (x ∷ xs))

-- any limit on the number of parts that is large enough makes the same parts
cut_same : {X : Type 0} (j k n : ℕ) (xs : List X) → 0 < n → length xs ≤ j → length xs ≤ k → cut_up_to j n xs ≡ cut_up_to k n xs
cut_same zero zero n xs some within other = refl
cut_same zero (suc k) n [] some within other = refl
cut_same zero (suc k) n (x ∷ xs) some within other = absurd (omega arith)
cut_same (suc j) zero n [] some within other = refl
cut_same (suc j) zero n (x ∷ xs) some within other = absurd (omega arith)
cut_same (suc j) (suc k) n [] some within other = refl
cut_same (suc j) (suc k) n (x ∷ xs) some within other =
    ap (λ parts. take n (x ∷ xs) ∷ parts) (cut_same j k n (drop n (x ∷ xs)) some (shorter j n x xs some within) (shorter k n x xs some other))

-- the first part and the parts of the rest, as in one step of a loop
pub cut_step : {X : Type 0} (n : ℕ) (xs : List X) → 0 < n → 0 < length xs → cut n xs ≡ take n xs ∷ cut n (drop n xs)
cut_step n [] some more = absurd (omega arith)
cut_step n (x ∷ xs) some more =
    ap (λ parts. take n (x ∷ xs) ∷ parts)
    (cut_same (length xs) (length (drop n (x ∷ xs))) n (drop n (x ∷ xs)) some (shorter (length xs) n x xs some (omega arith)) (omega arith))

-- a part of the rest is the next part of the list
next_part : {X : Type 0} (n : ℕ) (xs : List X) (i : ℕ) → cond (nat_lt (i * n) (length (drop n xs))) (Some (take n (drop (i * n) (drop n xs)))) None ≡ cond
    (nat_lt (suc i * n) (length xs)) (Some (take n (drop (suc i * n) xs))) None
next_part n xs i =
    let on : suc i * n ≡ n + i * n = omega arith in
    let test : nat_lt (i * n) (length xs - n) ≡ nat_lt (n + i * n) (length xs) = grind (arith, nat_tests) in
    rw (on, drop-drop (i * n) n xs, length-drop n xs, test) refl

-- part i of a list cut with a large enough limit
part_at : {X : Type 0} (most n : ℕ) (xs : List X) (i : ℕ) → 0 < n → length xs ≤ most
    → slice_get (cut_up_to most n xs) i ≡ cond (nat_lt (i * n) (length xs)) (Some (take n (drop (i * n) xs))) None
part_at zero n [] i some bound = grind (arith, nat_tests)
part_at zero n (x ∷ xs) i some bound = absurd (omega arith)
part_at (suc most) n [] i some bound = grind (arith, nat_tests)
part_at (suc most) n (x ∷ xs) zero some bound =
    let start : 0 * n ≡ 0 = omega arith in
    let within : nat_lt 0 (suc (length xs)) ≡ true = lt-ltb 0 (suc (length xs)) (omega arith) in
    rw (start, within) refl
part_at (suc most) n (x ∷ xs) (suc i) some bound =
    part_at most n (drop n (x ∷ xs)) i some (shorter most n x xs some bound)
    ∙ next_part n (x ∷ xs) i

-- the law of `cut_has_parts`
pub cut_has_parts : (X : Type 0) → CutHasParts X
cut_has_parts X n xs i some = part_at (length xs) n xs i some (omega arith)

-- the parts of a list cut with a large enough limit join to the list
parts_join : {X : Type 0} (most n : ℕ) (xs : List X) → 0 < n → length xs ≤ most → flat_map (λ part. part) (cut_up_to most n xs) ≡ xs
parts_join zero n [] some bound = refl
parts_join zero n (x ∷ xs) some bound = absurd (omega arith)
parts_join (suc most) n [] some bound = refl
parts_join (suc most) n (x ∷ xs) some bound =
    ap (λ rest. take n (x ∷ xs) ++ rest) (parts_join most n (drop n (x ∷ xs)) some (shorter most n x xs some bound))
    ∙ take-append-drop n (x ∷ xs)

-- the law of `cut_joins`
pub cut_joins : (X : Type 0) → CutJoins X
cut_joins X n xs some = parts_join (length xs) n xs some (omega arith)
