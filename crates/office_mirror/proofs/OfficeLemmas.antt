-- What a ruly history with identities that differ gives of its fronts.
use Rattle.std.proofs.Common.{◌≡◌, ℕ, zero, suc, ◌+◌, ◌-◌, ◌<◌, ◌≤◌, List, [], ◌∷◌, ◌++◌, length, take, slice_get, Some, None, Bool}
use Rattle.std.proofs.Common.{true, false, not, ◌||◌, cond, IsTrue, refl, sym, ap, subst, ◌∙◌, arith}
use Rattle.std.proofs.lemmas.Bool.{and_parts, and_from}
use Rattle.std.proofs.lemmas.Bool.Decides.{nat_tests}
use Rattle.std.proofs.lemmas.List.{append-nil}
use Rattle.std.proofs.Common.{append_assoc}
use Rattle.std.specs.List.{list_any, position_from}
use Rattle.std.specs.Option.{is_none}
use Rattle.list_words.specs.Words.{somewhere_from}
use Rattle.fact_kinds.specs.declared.batch.Batch.{Batch}
use Rattle.fact_kinds.specs.Identity.{identity_of, position_of, is_of, is_same_identity, identities_differ}
use Rattle.ldar_law.specs.Machine.{StandsAt, is_accepted}
use Rattle.ldar_law.specs.Verdicts.{verdict_on, is_pass, is_ruly}

-- the front with one more
pub longer : {X : Type 0} (xs : List X) (k : ℕ) (b : X) → slice_get xs k ≡ Some b
    → (k + 1 ≤ length xs) × (take k xs ++ b ∷ [] ≡ take (k + 1) xs) × (length (take k xs) ≡ k)
longer [] k b is = absurd cc
longer (x ∷ xs) zero b is = let same : x ≡ b = cc in (omega arith, ap (λ y. y ∷ []) (sym same), refl)
longer {X} (x ∷ xs) (suc k) b is =
    let on : suc (k + 1) ≡ suc k + 1 = omega arith in
    let more = longer xs k b is in
    let low = more.0 in
    let long = more.2 in
    (omega arith, ap (λ ys. x ∷ ys) more.1 ∙ ap (λ n. take n (x ∷ xs)) on, omega (arith, long))

-- ---- verdicts

-- what is not false is true
turned_true : (b : Bool) → not b ≡ false → b ≡ true
turned_true true h = refl
turned_true false h = absurd cc

-- if a disjunction is false, both parts are
or_false : (a b : Bool) → (a || b) ≡ false → (a ≡ false) × (b ≡ false)
or_false true b h = absurd cc
or_false false b h = (refl, h)

-- each batch passes after those before it
passes_from : (front all : List Batch) → somewhere_from (λ before batch after. not (is_pass (verdict_on before batch))) front all ≡ false
    → (k : ℕ) (b : Batch) → slice_get all k ≡ Some b
    → is_pass (verdict_on (front ++ take k all) b) ≡ true
passes_from front [] h k b is = absurd cc
passes_from front (x ∷ all) h zero b is =
    let same : x ≡ b = cc in
    let one = turned_true _ (or_false _ _ h).0 in
    subst (λ y. is_pass (verdict_on (front ++ []) y) ≡ true) same (subst (λ f. is_pass (verdict_on f x) ≡ true) (sym (append-nil front)) one)
passes_from front (x ∷ all) h (suc k) b is =
    subst (λ f. is_pass (verdict_on f b) ≡ true) (append_assoc front (x ∷ []) (take k all)) (passes_from (front ++ x ∷ []) all (or_false _ _ h).1 k b is)

-- what is not true is false
turned_false : (b : Bool) → not b ≡ true → b ≡ false
turned_false true h = absurd cc
turned_false false h = refl

-- ---- identities

-- a batch after this one has another identity
other_identity : (x b : Batch) (xs : List Batch) (k : ℕ) → list_any (is_same_identity x) xs ≡ false → slice_get xs k ≡ Some b → is_of (identity_of b) x ≡ false
other_identity x b [] k none is = absurd cc
other_identity x b (y ∷ xs) zero none is =
    let same : y ≡ b = cc in
    let apart : is_same_identity x b ≡ false = subst (λ z. is_same_identity x z ≡ false) same (or_false _ _ none).0 in
    grind (arith, nat_tests, apart)
other_identity x b (y ∷ xs) (suc k) none is = other_identity x b xs k (or_false _ _ none).1 is

-- no batch of the front has the identity of the next one
new_from : (n : ℕ) (all : List Batch) → IsTrue (identities_differ all) → (k : ℕ) (b : Batch) → slice_get all k ≡ Some b
    → position_from (is_of (identity_of b)) n (take k all) ≡ None
new_from n [] differ k b is = absurd cc
new_from n (x ∷ all) differ zero b is = refl
new_from n (x ∷ all) differ (suc k) b is =
    let parts = and_parts _ _ differ in
    let apart = other_identity x b all k (turned_false _ parts.0) is in
    ap (λ t. cond t (Some n) (position_from (is_of (identity_of b)) (n + 1) (take k all))) apart ∙ new_from (n + 1) all parts.1 k b is

-- a batch has its own identity
same_identity : (b : Batch) → is_of (identity_of b) b ≡ true
same_identity b = grind (arith, nat_tests)

-- a batch of the front is found at its place
kept_from : (n : ℕ) (all : List Batch) → IsTrue (identities_differ all) → (k p : ℕ) (b : Batch) → p < k → slice_get all p ≡ Some b
    → (position_from (is_of (identity_of b)) n (take k all) ≡ Some (n + p)) × (slice_get (take k all) p ≡ Some b)
kept_from n [] differ k p b low is = absurd cc
kept_from n (x ∷ all) differ zero p b low is = absurd (omega arith)
kept_from n (x ∷ all) differ (suc k) zero b low is =
    let same : x ≡ b = cc in
    let own : is_of (identity_of b) x ≡ true = subst (λ y. is_of (identity_of b) y ≡ true) (sym same) (same_identity b) in
    (ap (λ t. cond t (Some n) (position_from (is_of (identity_of b)) (n + 1) (take k all))) own ∙ ap Some (omega arith), is)
kept_from n (x ∷ all) differ (suc k) (suc p) b low is =
    let parts = and_parts _ _ differ in
    let apart = other_identity x b all p (turned_false _ parts.0) is in
    let rest = kept_from (n + 1) all parts.1 k p b (omega arith) is in
    (ap (λ t. cond t (Some n) (position_from (is_of (identity_of b)) (n + 1) (take k all))) apart ∙ rest.0 ∙ ap Some (omega arith), rest.1)

-- the batch after a front is accepted
pub next_accepted : (all : List Batch) → IsTrue (is_ruly all) → IsTrue (identities_differ all) → (k : ℕ) (b : Batch) → slice_get all k ≡ Some b
    → IsTrue (is_accepted (take k all) b)
next_accepted all ruly differ k b is =
    and_from (is_none (position_of (identity_of b) (take k all))) (is_pass (verdict_on (take k all) b)) (rw (new_from 1 all differ k b is) refl)
    (passes_from [] all (turned_false _ ruly) k b is)

-- a batch of a front is kept at its position
pub kept_stands : (all : List Batch) → IsTrue (identities_differ all) → (k p : ℕ) (b : Batch) → p < k → k ≤ length all → slice_get all p ≡ Some b
    → StandsAt (take k all) b (p + 1) b
kept_stands all differ k p b low within is =
    let it = kept_from 1 all differ k p b low is in
    let here : p + 1 - 1 ≡ p = omega arith in
    (it.0 ∙ ap Some (omega arith), subst (λ n. slice_get (take k all) n ≡ Some b) (sym here) it.1)
