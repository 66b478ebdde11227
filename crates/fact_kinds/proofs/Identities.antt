use Rattle.std.proofs.Common.{◌≡◌, ℕ, ◌+◌, ◌≤◌, Bool, true, false, not, ◌||◌, nat_eq, IsTrue, List, [], ◌∷◌, refl, sym, ◌∙◌, arith}
use Rattle.std.specs.List.{AllByRecursion, list_any, flat_map, IsDistinct}
use Rattle.std.specs.List.Sorted.{IsPermutation}
use Rattle.std.proofs.lemmas.Bool.{and_parts, or_parts, not-true, false≢true, eq-eqb}
use Rattle.std.proofs.lemmas.Cmp.{nat_eq_equiv}
use Rattle.std.proofs.lemmas.Map.Keys.{IsDistinct-head, IsDistinct-tail, IsDistinct-IsPermutation}
use Rattle.list_words.specs.Order.{AllApart}
use Rattle.list_words.proofs.Ascending.{apart_append}
use Rattle.list_words.proofs.Members.{Among, all_at, all_weaker, all_from_among, among_flat_map}
use Rattle.fact_kinds.specs.declared.batch.Batch.{Batch}
use Rattle.fact_kinds.specs.Stated.{Stated}
use Rattle.fact_kinds.specs.Facts.{Entry, goes_first, key_of, entries_from, entries_of}
use Rattle.fact_kinds.specs.Identity.{is_same_identity, identities_differ}
use Rattle.fact_kinds.proofs.KeyOrder.{apart_keys, tied_keys}

-- if none passes, each element fails
all_fail : {X : Type 0} (p : X → Bool) (xs : List X) → list_any p xs ≡ false → AllByRecursion (λ x. p x ≡ false) xs
all_fail p [] none = tt
all_fail p (x ∷ xs) none = let parts = or_parts (p x) (list_any p xs) none in (parts.0, all_fail p xs parts.1)

-- if each element fails, none passes
none_passes : {X : Type 0} (p : X → Bool) (xs : List X) → AllByRecursion (λ x. p x ≡ false) xs → list_any p xs ≡ false
none_passes p [] all = refl
none_passes p (x ∷ xs) all = rw all.0 (none_passes p xs all.1)

-- different identities are distinct in std's sense
pub distinct_identities : (history : List Batch) → IsTrue (identities_differ history) → IsDistinct is_same_identity history
unfolding IsDistinct
distinct_identities [] differ = tt
distinct_identities (batch ∷ batches) differ =
    let parts = and_parts (not (list_any (is_same_identity batch) batches)) (identities_differ batches) differ in
    (all_fail (is_same_identity batch) batches (not-true (list_any (is_same_identity batch) batches) parts.0), distinct_identities batches parts.1)

-- identities that are distinct in std's sense are different
identities_distinct : (history : List Batch) → IsDistinct is_same_identity history → IsTrue (identities_differ history)
identities_distinct [] distinct = refl
identities_distinct (batch ∷ batches) distinct =
    rw (none_passes (is_same_identity batch) batches (IsDistinct-head is_same_identity batch batches distinct))
    (identities_distinct batches (IsDistinct-tail is_same_identity batch batches distinct))

-- having the same identity is symmetric
identity_flips : (a b : Batch) → is_same_identity a b ≡ is_same_identity b a
identity_flips a b = rw (nat_eq_equiv.symm a.handheld b.handheld, nat_eq_equiv.symm a.number b.number) refl

-- a permutation of batches with different identities has different identities
pub identities_stay : (history other : List Batch) → IsPermutation history other → IsTrue (identities_differ history) → IsTrue (identities_differ other)
identities_stay history other moved differ =
    identities_distinct other (IsDistinct-IsPermutation is_same_identity identity_flips history other moved (distinct_identities history differ))

-- an entry's key has the identity of its batch, and an index from this one on
pub record Comes (batch : Batch) (index : ℕ) (entry : Entry) : Type 0 where
  pub handheld : entry.0.handheld ≡ batch.handheld
  pub number : entry.0.number ≡ batch.number
  pub behind : index ≤ entry.0.index

-- the entries of facts have the identity of their batch, and indexes from their first one on
pub entries_come : (batch : Batch) (index : ℕ) (facts : List Stated) → AllByRecursion (Comes batch index) (entries_from batch index facts)
entries_come batch index [] = tt
entries_come batch index (fact ∷ facts) = (
  record { handheld = refl; number = refl; behind = omega arith },
  all_weaker (Comes batch (index + 1)) (Comes batch index)
      (λ e comes. record { handheld = comes.handheld; number = comes.number; behind = omega (arith, comes.behind) })
      (entries_from batch (index + 1) facts) (entries_come batch (index + 1) facts),
)

-- no two facts of one batch tie, since their indexes differ
entries_apart : (batch : Batch) (index : ℕ) (facts : List Stated) → AllApart goes_first (entries_from batch index facts)
entries_apart batch index [] = tt
entries_apart batch index (fact ∷ facts) = (
  all_weaker (Comes batch (index + 1)) (λ e. (goes_first (key_of batch index fact, fact) e || goes_first e (key_of batch index fact, fact)) ≡ true)
      (λ e comes. apart_keys (key_of batch index fact) e.0
      (λ tie. absurd (omega (arith, comes.behind, (tied_keys (key_of batch index fact) e.0 tie).index))))
      (entries_from batch (index + 1) facts) (entries_come batch (index + 1) facts),
  entries_apart batch (index + 1) facts,
)

-- no facts of two batches tie, since handheld or number differs
batches_apart : (a b : Batch) → is_same_identity a b ≡ false → (d e : Entry) → Among (entries_of a) d → Among (entries_of b) e
    → (goes_first d e || goes_first e d) ≡ true
batches_apart a b differ d e of_a of_b =
    let from_a = all_at (Comes a 0) (entries_of a) d (entries_come a 0 a.facts) of_a in
    let from_b = all_at (Comes b 0) (entries_of b) e (entries_come b 0 b.facts) of_b in
    apart_keys d.0 e.0 (λ tie.
    let tied = tied_keys d.0 e.0 tie in
    let handheld : nat_eq a.handheld b.handheld ≡ true = eq-eqb a.handheld b.handheld (sym from_a.handheld ∙ tied.handheld ∙ from_b.handheld) in
    let number : nat_eq a.number b.number ≡ true = eq-eqb a.number b.number (sym from_a.number ∙ tied.number ∙ from_b.number) in
    false≢true (sym differ ∙ rw (handheld, number) refl))

-- no two facts of batches with different identities tie
pub history_apart : (history : List Batch) → IsTrue (identities_differ history) → AllApart goes_first (flat_map entries_of history)
history_apart [] differ = tt
history_apart (batch ∷ batches) differ =
    let parts = and_parts (not (list_any (is_same_identity batch) batches)) (identities_differ batches) differ in
    let others = all_fail (is_same_identity batch) batches (not-true (list_any (is_same_identity batch) batches) parts.0) in
    apart_append goes_first (entries_of batch) (flat_map entries_of batches)
    (entries_apart batch 0 batch.facts) (history_apart batches parts.1)
    (all_from_among (λ d. AllByRecursion (λ e. (goes_first d e || goes_first e d) ≡ true) (flat_map entries_of batches)) (entries_of batch)
    (λ d of_batch. all_from_among (λ e. (goes_first d e || goes_first e d) ≡ true) (flat_map entries_of batches)
    (λ e of_others. let found = among_flat_map entries_of batches e of_others in
    batches_apart batch found.0 (all_at (λ b. is_same_identity batch b ≡ false) batches found.0 others found.1) d e of_batch found.2)))
