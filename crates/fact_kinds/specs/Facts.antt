-- The facts of batches in key order, those up to a view day, and laws about them.
use Rattle.std.specs.Prelude.{◌≡◌, ℕ, ◌+◌, ◌↔◌, Bool, nat_le, IsTrue, Some, List, [], ◌∷◌, ◌++◌, length, filter, take_while, slice_get, sum_by, Contains}
use Rattle.std.specs.Prelude.{IsPermutation}
use Rattle.std.specs.List.{flat_map}
use Rattle.std.specs.Ordering.{is_lt, nat_cmp, on, then_cmp}
use Rattle.std.specs.declared.cmp.Ordering.{Ordering}
use Rattle.list_words.specs.Order.{in_order, put_each, Ascends}
use Rattle.fact_kinds.specs.declared.batch.Batch.{Batch}
use Rattle.fact_kinds.specs.declared.key.Key.{Key}
use Rattle.fact_kinds.specs.Identity.{identities_differ}
use Rattle.fact_kinds.specs.Stated.{Stated}

-- a fact and its key
abbrev pub Entry : Type 0
Entry = Key × Stated

-- compares keys by day, then minute, handheld, batch number and index
abbrev pub key_cmp : Key → Key → Ordering
key_cmp =
    then_cmp (on (λ k. k.day) nat_cmp) (then_cmp (on (λ k. k.minute) nat_cmp) (then_cmp (on (λ k. k.handheld) nat_cmp)
    (then_cmp (on (λ k. k.number) nat_cmp) (on (λ k. k.index) nat_cmp))))

-- the first key is earlier
abbrev pub is_earlier : Key → Key → Bool
is_earlier a b = is_lt (key_cmp a b)

-- the first fact has the earlier key
abbrev pub goes_first : Entry → Entry → Bool
goes_first a b = is_earlier a.0 b.0

-- the key of the fact at a place (from 0) of a batch
abbrev pub key_of : Batch → ℕ → Stated → Key
key_of batch index fact =
    record { day = fact.day; minute = fact.minute; handheld = batch.handheld; number = batch.number; index = index }

-- facts with their keys, starting at this place of the batch
abbrev pub entries_from : Batch → ℕ → List Stated → List Entry
entries_from batch index [] = []
entries_from batch index (fact ∷ facts) = (key_of batch index fact, fact) ∷ entries_from batch (index + 1) facts

-- the facts of a batch with their keys
abbrev pub entries_of : Batch → List Entry
entries_of batch = entries_from batch 0 batch.facts

-- the facts of a history, in key order
abbrev pub facts_of : List Batch → List Entry
facts_of history = in_order goes_first (flat_map entries_of history)

-- the facts with a day of at most the view day
abbrev pub facts_to : ℕ → List Batch → List Entry
facts_to day history = filter (λ e. nat_le e.0.day day) (facts_of history)

-- the entry is a fact of one of the batches, with its key
pub record IsFactOf (history : List Batch) (entry : Entry) : Type 0 where
  pub batch : Batch
  pub index : ℕ
  pub held : Contains history batch
  pub fact : slice_get batch.facts index ≡ Some entry.1
  pub key : entry.0 ≡ key_of batch index entry.1

-- the facts do not depend on the order in which the batches arrive
abbrev pub IsOrderFree : Type 0
IsOrderFree =
    (history other : List Batch) → IsPermutation history other → IsTrue (identities_differ history) → facts_of other ≡ facts_of history

-- whether all identities differ does not depend on the order of the batches
abbrev pub IdentitiesStay : Type 0
IdentitiesStay =
    (history other : List Batch) → IsPermutation history other → IsTrue (identities_differ history) → IsTrue (identities_differ other)

-- the facts are in key order
abbrev pub FactsAscend : Type 0
FactsAscend = (history : List Batch) → IsTrue (identities_differ history) → Ascends goes_first (facts_of history)

-- the facts of a history are exactly the facts in its batches, with their keys
abbrev pub FactsAreThoseOf : Type 0
FactsAreThoseOf = (history : List Batch) (entry : Entry) → Contains (facts_of history) entry ↔ IsFactOf history entry

-- the number of facts is the sum over the batches
abbrev pub FactsCount : Type 0
FactsCount = (history : List Batch) → length (facts_of history) ≡ sum_by (λ batch. length batch.facts) history

-- the facts up to a view day are a prefix of all facts
abbrev pub ViewDayCuts : Type 0
ViewDayCuts =
    (day : ℕ) (history : List Batch) → IsTrue (identities_differ history)
    → facts_to day history ≡ take_while (λ e. nat_le e.0.day day) (facts_of history)

-- a fact has the facts with earlier keys before it and those with later keys after it
abbrev pub CutOfFacts : Type 0
CutOfFacts =
    (history : List Batch) (earlier : List Entry) (entry : Entry) (later : List Entry) → IsTrue (identities_differ history)
    → facts_of history ≡ earlier ++ entry ∷ later
    → (filter (λ e. is_earlier e.0 entry.0) (facts_of history) ≡ earlier)
    × (filter (λ e. is_earlier entry.0 e.0) (facts_of history) ≡ later)

-- a further batch inserts each of its facts at its place among the others
abbrev pub OneMoreBatch : Type 0
OneMoreBatch =
    (history : List Batch) (batch : Batch) → IsTrue (identities_differ (history ++ batch ∷ []))
    → facts_of (history ++ batch ∷ []) ≡ put_each goes_first (entries_of batch) (facts_of history)
