-- Laws about what new facts touch when a history grows: the statements of `touches`.
use Rattle.std.specs.Prelude.{◌≡◌, ℕ, false, IsTrue, Some, List, ◌++◌}
use Rattle.std.specs.List.{AllByRecursion, list_any}
use Rattle.fact_kinds.specs.declared.batch.Batch.{Batch}
use Rattle.fact_kinds.specs.Facts.{Entry, entries_of, facts_of}
use Rattle.fact_kinds.specs.Identity.{identities_differ}
use Rattle.fact_kinds.specs.Named.{component_of, unit_of, reading_instrument, is_numbered}
use Rattle.ldar_law.specs.Equipment.{elections_of, members_of, of_unit, unit_entry_of}
use Rattle.ldar_law.specs.Slices.{facts_of_component}
use Rattle.ldar_law.specs.Stirred.{is_touched, matters}
use Rattle.history_laws.specs.KnownLaws.{HasSameFacts}
use Rattle.history_laws.specs.MoreLaws.{with_batch}

-- no new fact names the component, and none matters to a reading of it
pub record IsUntouched (number : ℕ) (facts news : List Entry) : Type 0 where
  pub component : list_any (λ e. is_numbered (component_of e.1.body) number) news ≡ false
  pub tests : AllByRecursion (λ e. (instrument : ℕ) → reading_instrument e.1.body ≡ Some instrument
      → list_any (matters instrument e.0.day) news ≡ false) (facts_of_component number facts)

-- a component that is not touched is untouched
abbrev pub NotTouchedIsUntouched : Type 0
NotTouchedIsUntouched = (number : ℕ) (facts news : List Entry) → is_touched facts news number ≡ false → IsUntouched number facts news

-- the facts of a component and the facts that matter to its readings do not change if it is untouched
abbrev pub UntouchedStays : Type 0
UntouchedStays =
    (number : ℕ) (history : List Batch) (batch : Batch) → IsTrue (identities_differ (with_batch history batch))
    → is_touched (facts_of history) (entries_of batch) number ≡ false
    → HasSameFacts number (facts_of history) (facts_of (with_batch history batch))

-- a component that is touched stays touched when more facts arrive
abbrev pub TouchedStays : Type 0
TouchedStays =
    (number : ℕ) (history : List Batch) (batch : Batch) (news : List Entry) → IsTrue (identities_differ (with_batch history batch))
    → IsTrue (is_touched (facts_of history) news number)
    → IsTrue (is_touched (facts_of (with_batch history batch)) (news ++ entries_of batch) number)

-- what is entered for a process unit does not change: its entry, members and elections, and what decides on its components
pub record UnitStays (number : ℕ) (facts other : List Entry) : Type 0 where
  pub entry : unit_entry_of number other ≡ unit_entry_of number facts
  pub members : members_of number other ≡ members_of number facts
  pub elections : elections_of number other ≡ elections_of number facts
  pub of_unit : of_unit number other ≡ of_unit number facts

abbrev pub UnnamedUnitStays : Type 0
UnnamedUnitStays =
    (number : ℕ) (history : List Batch) (batch : Batch) → IsTrue (identities_differ (with_batch history batch))
    → list_any (λ e. is_numbered (unit_of e.1.body) number) (entries_of batch) ≡ false
    → UnitStays number (facts_of history) (facts_of (with_batch history batch))
