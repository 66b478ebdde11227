use Rattle.std.proofs.Common.{◌≡◌, ◌↔◌, ℕ, zero, suc, ◌+◌, IsTrue, Some, List, [], ◌∷◌, ◌++◌, length, slice_get, sum_by, refl, sym, ap, ◌∙◌, subst, inl}
use Rattle.std.proofs.Common.{inr, arith}
use Rattle.std.specs.List.{Contains, flat_map}
use Rattle.std.specs.List.Sorted.{IsPermutation}
use Rattle.std.proofs.lemmas.List.{append-nil, length-append}
use Rattle.std.proofs.lemmas.List.Sums.{sum_by-cons}
use Rattle.std.proofs.lemmas.List.Concat.{flat_map-append}
use Rattle.std.proofs.lemmas.List.Sorted.{length_permutation}
use Rattle.list_words.specs.Order.{in_order, put_each, Ascends, AllApart}
use Rattle.list_words.proofs.Ascending.{same_in_order, ascends_in_order, among_in_order, in_order_permutes, put_each_in_order}
use Rattle.list_words.proofs.Members.{Among, among_permutation, among_flat_map, flat_map_among, among_from_Contains, Contains-from_among}
use Rattle.fact_kinds.specs.declared.batch.Batch.{Batch}
use Rattle.fact_kinds.specs.Stated.{Stated}
use Rattle.fact_kinds.specs.Facts.{Entry, goes_first, key_of, entries_from, entries_of, facts_of, IsFactOf}
use Rattle.fact_kinds.specs.Identity.{identities_differ}
use Rattle.fact_kinds.proofs.Identities.{identities_stay, history_apart}
use Rattle.fact_kinds.proofs.KeyOrder.{strict_goes_first}

-- a permutation of the batches has the same facts as members
flat_map_moved : {X A : Type 0} (f : X → List A) (xs ys : List X) (z : A) → IsPermutation xs ys → Among (flat_map f xs) z ↔ Among (flat_map f ys) z
flat_map_moved f xs ys z moved = (
  λ h. let found = among_flat_map f xs z h in flat_map_among f ys found.0 z ((among_permutation xs ys found.0 moved).0 found.1) found.2,
  λ h. let found = among_flat_map f ys z h in flat_map_among f xs found.0 z ((among_permutation xs ys found.0 moved).1 found.1) found.2,
)

-- a permutation of the batches has the same facts in the same order
pub order_free : (history other : List Batch) → IsPermutation history other → IsTrue (identities_differ history) → facts_of other ≡ facts_of history
order_free history other moved differ =
    sym (same_in_order goes_first strict_goes_first (flat_map entries_of history) (flat_map entries_of other)
    (history_apart history differ) (history_apart other (identities_stay history other moved differ))
    (λ z. flat_map_moved entries_of history other z moved))

-- the facts are in key order
pub facts_ascend : (history : List Batch) → IsTrue (identities_differ history) → Ascends goes_first (facts_of history)
facts_ascend history differ = ascends_in_order goes_first strict_goes_first (flat_map entries_of history) (history_apart history differ)

-- a batch has as many entries as facts
length-entries_from : (batch : Batch) (index : ℕ) (facts : List Stated) → length (entries_from batch index facts) ≡ length facts
length-entries_from batch index [] = refl
length-entries_from batch index (fact ∷ facts) = ap suc (length-entries_from batch (index + 1) facts)

-- all batches have as many entries as facts
flat_length : (history : List Batch) → length (flat_map entries_of history) ≡ sum_by (λ batch. length batch.facts) history
flat_length [] = refl
flat_length (batch ∷ batches) =
    length-append (entries_of batch) (flat_map entries_of batches)
    ∙ rw (length-entries_from batch 0 batch.facts, flat_length batches) (sym (sum_by-cons (λ b. length b.facts) batch batches))

-- the number of facts is the sum over the batches
pub facts_count : (history : List Batch) → length (facts_of history) ≡ sum_by (λ batch. length batch.facts) history
facts_count history =
    length_permutation (flat_map entries_of history) (facts_of history) (in_order_permutes goes_first (flat_map entries_of history))
    ∙ flat_length history

-- a further batch inserts each of its facts at its place
pub one_more_batch : (history : List Batch) (batch : Batch) → IsTrue (identities_differ (history ++ batch ∷ []))
    → facts_of (history ++ batch ∷ []) ≡ put_each goes_first (entries_of batch) (facts_of history)
one_more_batch history batch differ =
    let joined : flat_map entries_of (history ++ batch ∷ []) ≡ flat_map entries_of history ++ entries_of batch =
    flat_map-append entries_of history (batch ∷ []) ∙ ap (λ es. flat_map entries_of history ++ es) (append-nil (entries_of batch)) in
    ap (in_order goes_first) joined
    ∙ sym (put_each_in_order goes_first strict_goes_first (entries_of batch) (flat_map entries_of history)
    (subst (AllApart goes_first) joined (history_apart (history ++ batch ∷ []) differ)))

-- an entry of a batch is one of its facts, with its key
entry_is : (batch : Batch) (index : ℕ) (facts : List Stated) (entry : Entry) → Among (entries_from batch index facts) entry
    → (k : ℕ) × (slice_get facts k ≡ Some entry.1) × (entry.0 ≡ key_of batch (index + k) entry.1)
entry_is batch index [] entry h = absurd h
entry_is batch index (fact ∷ facts) entry h =
    elim h [
      | inl e ↦
          let place : index ≡ index + 0 = omega arith in
          (0, ap (λ x. Some x.1) e, subst (λ x. x.0 ≡ key_of batch (index + 0) x.1) e (ap (λ n. key_of batch n fact) place))
      | inr there ↦
          let found = entry_is batch (index + 1) facts entry there in
          let place : index + 1 + found.0 ≡ index + suc found.0 = omega arith in
          (suc found.0, found.1, subst (λ n. entry.0 ≡ key_of batch n entry.1) place found.2)
    ]

-- the fact at a place of a batch has an entry with its index
entry_from : (batch : Batch) (index : ℕ) (facts : List Stated) (k : ℕ) (fact : Stated) → slice_get facts k ≡ Some fact
    → Among (entries_from batch index facts) (key_of batch (index + k) fact, fact)
entry_from batch index [] k fact e = cc
entry_from batch index (first ∷ facts) zero fact e =
    let place : index ≡ index + 0 = omega arith in
    let same : first ≡ fact = cc in
    inl (rw (sym place, same) refl)
entry_from batch index (first ∷ facts) (suc k) fact e =
    let place : index + 1 + k ≡ index + suc k = omega arith in
    inr (subst (λ n. Among (entries_from batch (index + 1) facts) (key_of batch n fact, fact)) place (entry_from batch (index + 1) facts k fact e))

-- the facts of a history are exactly the facts in its batches
pub facts_are_those_of : (history : List Batch) (entry : Entry) → Contains (facts_of history) entry ↔ IsFactOf history entry
facts_are_those_of history entry =
    let moved = among_in_order goes_first (flat_map entries_of history) entry in (
      λ h.
          let found = among_flat_map entries_of history entry (moved.1 (among_from_Contains (facts_of history) entry h)) in
          let stands = entry_is found.0 0 found.0.facts entry found.2 in
          let place : 0 + stands.0 ≡ stands.0 = omega arith in
          record {
            batch = found.0;
            index = stands.0;
            held = Contains-from_among history found.0 found.1;
            fact = stands.1;
            key = subst (λ n. entry.0 ≡ key_of found.0 n entry.1) place stands.2;
          },
      λ is.
          let place : is.index ≡ 0 + is.index = omega arith in
          let key : key_of is.batch (0 + is.index) entry.1 ≡ entry.0 = ap (λ n. key_of is.batch n entry.1) (sym place) ∙ sym is.key in
          let among : Among (entries_of is.batch) entry =
          subst (λ k. Among (entries_of is.batch) (k, entry.1)) key (entry_from is.batch 0 is.batch.facts is.index entry.1 is.fact) in
          Contains-from_among (facts_of history) entry
          (moved.0 (flat_map_among entries_of history is.batch entry (among_from_Contains history is.batch is.held) among)),
    )
