-- Laws about the facts of a history and of one more batch: the statements of `batches`.
use Rattle.std.specs.Prelude.{◌≡◌, ℕ, Bool, false, nat_eq, nat_lt, IsTrue, Some, List, [], ◌∷◌, ◌++◌, filter}
use Rattle.std.specs.List.{AllByRecursion, list_any}
use Rattle.list_words.specs.Order.{put_each}
use Rattle.fact_kinds.specs.declared.batch.Batch.{Batch}
use Rattle.fact_kinds.specs.declared.body.FactBody.{FactBody}
use Rattle.fact_kinds.specs.declared.body.FactBody.TheVariants.{Shutdown}
use Rattle.fact_kinds.specs.Facts.{Entry, is_earlier, goes_first, entries_of, facts_of, facts_to}
use Rattle.fact_kinds.specs.Identity.{identities_differ}
use Rattle.fact_kinds.specs.Named.{component_of, reading_instrument, is_numbered}
use Rattle.ldar_law.specs.declared.election.ElectionEntry.{ElectionEntry}
use Rattle.ldar_law.specs.declared.equipment.Equipment.{Equipment}
use Rattle.ldar_law.specs.Equipment.{classes_of, elections_of, members_of}
use Rattle.ldar_law.specs.RegisterLaws.{class_first}
use Rattle.ldar_law.specs.Slices.{facts_of_component, facts_of_unit, facts_of_instrument, readings_of_instrument, register_facts}
use Rattle.ldar_law.specs.Stirred.{matters}
use Rattle.history_laws.specs.KnownLaws.{IsKnownAlike}
use Rattle.history_laws.specs.RulyLaws.{IsEachOnce}

-- the history with one more batch
abbrev pub with_batch : List Batch → Batch → List Batch
with_batch history batch = history ++ batch ∷ []

-- a part of the facts after one more batch is the old part with the same part of the batch inserted in key order
abbrev pub PartOfMoreFacts : Type 0
PartOfMoreFacts =
    (test : Entry → Bool) (history : List Batch) (batch : Batch) → IsTrue (identities_differ (with_batch history batch))
    → filter test (facts_of (with_batch history batch)) ≡ put_each goes_first (filter test (entries_of batch)) (filter test (facts_of history))

-- a part stays the same if the batch has nothing of it
abbrev pub PartStays : Type 0
PartStays =
    (test : Entry → Bool) (history : List Batch) (batch : Batch) → IsTrue (identities_differ (with_batch history batch))
    → list_any test (entries_of batch) ≡ false → filter test (facts_of (with_batch history batch)) ≡ filter test (facts_of history)

-- after one more batch, each list of a store is the old list with the batch's facts for it inserted in key order
pub record ListsWithBatch (history : List Batch) (batch : Batch) : Type 0 where
  pub component : (number : ℕ) → facts_of_component number (facts_of (with_batch history batch))
      ≡ put_each goes_first (facts_of_component number (entries_of batch)) (facts_of_component number (facts_of history))
  pub unit : (number : ℕ) → facts_of_unit number (facts_of (with_batch history batch))
      ≡ put_each goes_first (facts_of_unit number (entries_of batch)) (facts_of_unit number (facts_of history))
  pub instrument : (number : ℕ) → facts_of_instrument number (facts_of (with_batch history batch))
      ≡ put_each goes_first (facts_of_instrument number (entries_of batch)) (facts_of_instrument number (facts_of history))
  pub readings : (number : ℕ) → readings_of_instrument number (facts_of (with_batch history batch))
      ≡ put_each goes_first (readings_of_instrument number (entries_of batch)) (readings_of_instrument number (facts_of history))
  pub register : register_facts (facts_of (with_batch history batch))
      ≡ put_each goes_first (register_facts (entries_of batch)) (register_facts (facts_of history))

abbrev pub ListsGrow : Type 0
ListsGrow = (history : List Batch) (batch : Batch) → IsTrue (identities_differ (with_batch history batch)) → ListsWithBatch history batch

-- the election with the earlier key is first
abbrev pub election_first : ElectionEntry → ElectionEntry → Bool
election_first a b = is_earlier a.key b.key

-- after one more batch, a component's classes and a process unit's elections are the old ones with the batch's inserted in key order
pub record RegisterWithBatch (history : List Batch) (batch : Batch) : Type 0 where
  pub classes : (number : ℕ) → classes_of number (facts_of (with_batch history batch))
      ≡ put_each class_first (classes_of number (entries_of batch)) (classes_of number (facts_of history))
  pub elections : (number : ℕ) → elections_of number (facts_of (with_batch history batch))
      ≡ put_each election_first (elections_of number (entries_of batch)) (elections_of number (facts_of history))

abbrev pub RegisterGrows : Type 0
RegisterGrows = (history : List Batch) (batch : Batch) → IsTrue (identities_differ (with_batch history batch)) → RegisterWithBatch history batch

-- after one more batch, a process unit's members are the old ones with the batch's, if no component is entered twice
abbrev pub MembersGrow : Type 0
MembersGrow =
    (history : List Batch) (batch : Batch) (unit : ℕ) → IsTrue (identities_differ (with_batch history batch))
    → IsEachOnce (facts_of (with_batch history batch))
    → members_of unit (facts_of (with_batch history batch)) ≡ put_each nat_lt (members_of unit (entries_of batch)) (members_of unit (facts_of history))

-- the fact is a shutdown of the process unit
abbrev pub is_shutdown : ℕ → FactBody → Bool
is_shutdown number (Shutdown other _) = nat_eq other number
is_shutdown number _ = false

-- a batch does not affect a component: no fact of it names the component, matters to a reading of it, or shuts down its process unit
pub record LeavesAlone (number unit : ℕ) (history : List Batch) (batch : Batch) : Type 0 where
  pub component : list_any (λ e. is_numbered (component_of e.1.body) number) (entries_of batch) ≡ false
  pub tests : AllByRecursion (λ e. (instrument : ℕ) → reading_instrument e.1.body ≡ Some instrument
      → list_any (matters instrument e.0.day) (entries_of batch) ≡ false) (facts_of_component number (facts_of history))
  pub shutdowns : list_any (λ e. is_shutdown unit e.1.body) (entries_of batch) ≡ false

-- a component that a batch does not affect is the same on a day with the batch and without it
abbrev pub LeftAloneIsKnownAlike : Type 0
LeftAloneIsKnownAlike =
    (t : ℕ) (item : Equipment) (history : List Batch) (batch : Batch) → IsTrue (identities_differ (with_batch history batch))
    → LeavesAlone item.component item.unit history batch → IsKnownAlike item (facts_to t history) (facts_to t (with_batch history batch))
