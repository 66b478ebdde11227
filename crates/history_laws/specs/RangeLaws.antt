-- Laws about a register whose facts have all fields in range: the statements of `ranges`.
use Rattle.std.specs.Prelude.{◌≡◌, ℕ, ◌≤◌, Bool, Some, List, length, filter}
use Rattle.std.specs.List.{AllByRecursion}
use Rattle.ldar_days.specs.Calendar.{IsDay}
use Rattle.fact_kinds.specs.declared.batch.Batch.{Batch}
use Rattle.fact_kinds.specs.Facts.{Entry, facts_of}
use Rattle.fact_kinds.specs.Fields.{IsFact}
use Rattle.ldar_law.specs.declared.equipment.Equipment.{Equipment}
use Rattle.ldar_law.specs.declared.numbers.TheConstants.{MOST_COMPONENTS}
use Rattle.ldar_law.specs.declared.unit_entry.UnitEntry.{UnitEntry}
use Rattle.ldar_law.specs.Equipment.{equipment_of, unit_entry_of, members_of}
use Rattle.history_laws.specs.RulyLaws.{IsEachOnce}

-- a fact with its key: each field is in its range, and the key has the fact's day
pub record IsInRange (e : Entry) : Type 0 where
  pub fact : IsFact e.1
  pub day : e.0.day ≡ e.1.day

-- the facts of batches are in range if the facts in each batch are
abbrev pub FactsAreInRange : Type 0
FactsAreInRange = (history : List Batch) → AllByRecursion (λ batch. AllByRecursion IsFact batch.facts) history → AllByRecursion IsInRange (facts_of history)

-- a part of facts in range is in range
abbrev pub PartIsInRange : Type 0
PartIsInRange = (facts : List Entry) (test : Entry → Bool) → AllByRecursion IsInRange facts → AllByRecursion IsInRange (filter test facts)

-- the number of a component
abbrev pub IsComponentNumber : ℕ → Type 0
IsComponentNumber number = (1 ≤ number) × (number ≤ MOST_COMPONENTS)

-- the number of a process unit
abbrev pub IsUnitNumber : ℕ → Type 0
IsUnitNumber number = (1 ≤ number) × (number ≤ 64)

-- a process unit starts up on a day of the calendar
abbrev pub StartupsAreDays : Type 0
StartupsAreDays =
    (facts : List Entry) (number : ℕ) (unit : UnitEntry) → AllByRecursion IsInRange facts → unit_entry_of number facts ≡ Some unit
    → IsDay unit.startup × IsUnitNumber number

-- a component begins on a day of the calendar, and its number and its unit's are in range
pub record StandsInRange (number : ℕ) (item : Equipment) : Type 0 where
  pub begin : IsDay item.begin
  pub component : IsComponentNumber number
  pub unit : IsUnitNumber item.unit

abbrev pub ComponentsStandInRange : Type 0
ComponentsStandInRange =
    (facts : List Entry) (number : ℕ) (item : Equipment) → AllByRecursion IsInRange facts → equipment_of number facts ≡ Some item
    → StandsInRange number item

-- the members of a process unit are numbers of components
abbrev pub MembersAreInRange : Type 0
MembersAreInRange = (facts : List Entry) (unit : ℕ) → AllByRecursion IsInRange facts → AllByRecursion IsComponentNumber (members_of unit facts)

-- a process unit has at most 60,000 members if each component is entered only once
abbrev pub MembersFit : Type 0
MembersFit =
    (facts : List Entry) (unit : ℕ) → AllByRecursion IsInRange facts → IsEachOnce facts → length (members_of unit facts) ≤ MOST_COMPONENTS
