-- Laws about ruly histories, in which each batch passes after those before it: the statements of `ruly`.
use Rattle.std.specs.Prelude.{◌≡◌, ℕ, ◌≤◌, Bool, true, nat_lt, Some, None, is_some, IsTrue, List, [], ◌∷◌, ◌++◌, length, count_by, Contains, filter}
use Rattle.std.specs.List.{AllByRecursion, flat_map}
use Rattle.list_words.specs.Order.{Ascends}
use Rattle.fact_kinds.specs.declared.batch.Batch.{Batch}
use Rattle.fact_kinds.specs.Facts.{Entry, entries_of, facts_of, facts_to}
use Rattle.ldar_law.specs.declared.equipment.Equipment.{Equipment}
use Rattle.ldar_law.specs.declared.numbers.TheConstants.{LAST_FACT_DAY}
use Rattle.ldar_law.specs.declared.unit_entry.UnitEntry.{UnitEntry}
use Rattle.ldar_law.specs.declared.verdict.Verdict.TheVariants.{Pass}
use Rattle.ldar_law.specs.Denials.{component_asked, unit_asked}
use Rattle.ldar_law.specs.Equipment.{equipment_of, unit_entry_of, members_of}
use Rattle.ldar_law.specs.RegisterLaws.{enters_component, enters_unit}
use Rattle.ldar_law.specs.Verdicts.{is_ruly, verdict_on}

-- each day of a ruly history's facts is at most 2097-12-31
abbrev pub DaysAreInBound : Type 0
DaysAreInBound = (history : List Batch) → IsTrue (is_ruly history) → AllByRecursion (λ e. e.0.day ≤ LAST_FACT_DAY) (facts_of history)

-- if the days of some facts have a bound, so has the startup of each process unit
abbrev pub StartupsAreInBound : Type 0
StartupsAreInBound =
    (facts : List Entry) (number last : ℕ) (unit : UnitEntry) → AllByRecursion (λ e. e.0.day ≤ last) facts
    → unit_entry_of number facts ≡ Some unit → unit.startup ≤ last

-- if the days of some facts have a bound, so has the beginning of each component
abbrev pub BeginningsAreInBound : Type 0
BeginningsAreInBound =
    (facts : List Entry) (number last : ℕ) (item : Equipment) → AllByRecursion (λ e. e.0.day ≤ last) facts
    → equipment_of number facts ≡ Some item → item.begin ≤ last

-- a process unit starts up on the day of a fact that enters it
abbrev pub StartupIsOfFact : Type 0
StartupIsOfFact =
    (facts : List Entry) (number : ℕ) (unit : UnitEntry) → unit_entry_of number facts ≡ Some unit
    → (e : Entry) × Contains facts e × IsTrue (enters_unit number e.1.body) × (unit.startup ≡ e.0.day)

-- a component begins on the day of a fact that enters it
abbrev pub BeginningIsOfFact : Type 0
BeginningIsOfFact =
    (facts : List Entry) (number : ℕ) (item : Equipment) → equipment_of number facts ≡ Some item
    → (e : Entry) × Contains facts e × IsTrue (enters_component number e.1.body) × (item.begin ≡ e.0.day)

-- no component and no process unit is entered twice
pub record IsEachOnce (facts : List Entry) : Type 0 where
  pub components : (number : ℕ) → count_by (λ e. enters_component number e.1.body) facts ≤ 1
  pub units : (number : ℕ) → count_by (λ e. enters_unit number e.1.body) facts ≤ 1

-- in a ruly history, each component and each process unit is entered only once
abbrev pub EachIsEnteredOnce : Type 0
EachIsEnteredOnce = (history : List Batch) → IsTrue (is_ruly history) → IsEachOnce (facts_of history)

-- in a part of such facts, too, each is entered only once
abbrev pub PartHasEachOnce : Type 0
PartHasEachOnce = (facts : List Entry) (test : Entry → Bool) → IsEachOnce facts → IsEachOnce (filter test facts)

-- each of some facts is a fact of the history or an earlier fact of the batch
abbrev pub HaveCome : List Batch → List Entry → List Entry → Type 0
HaveCome history before facts = (e : Entry) → Contains facts e → Contains (flat_map entries_of history ++ before) e

-- a fact of the batch enters nothing that earlier facts enter, of the history or of its batch. The earlier facts may be in any order, and
-- only some of them, such as those of the register.
pub record EntersFirst (history : List Batch) (batch : Batch) : Type 0 where
  pub component : (before : List Entry) (entry : Entry) (after : List Entry) (number : ℕ) (facts : List Entry)
      → entries_of batch ≡ before ++ entry ∷ after → IsTrue (enters_component number entry.1.body) → HaveCome history before facts
      → equipment_of number facts ≡ None
  pub unit : (before : List Entry) (entry : Entry) (after : List Entry) (number : ℕ) (facts : List Entry)
      → entries_of batch ≡ before ++ entry ∷ after → IsTrue (enters_unit number entry.1.body) → HaveCome history before facts
      → unit_entry_of number facts ≡ None

-- a batch that passes enters no number a second time
abbrev pub PassingBatchEntersFirst : Type 0
PassingBatchEntersFirst = (history : List Batch) (batch : Batch) → verdict_on history batch ≡ Pass → EntersFirst history batch

-- if each component is entered only once, the members of a process unit strictly ascend
abbrev pub MembersAscend : Type 0
MembersAscend = (facts : List Entry) (unit : ℕ) → IsEachOnce facts → Ascends nat_lt (members_of unit facts)

-- if each component is entered only once, there are at most as many members as numbers
abbrev pub MembersAreFew : Type 0
MembersAreFew =
    (facts : List Entry) (unit most : ℕ) → IsEachOnce facts → AllByRecursion (λ number. (1 ≤ number) × (number ≤ most)) (members_of unit facts)
    → length (members_of unit facts) ≤ most

-- if each component is entered only once, a member of a process unit is a component whose unit it is
abbrev pub MembersStandInUnit : Type 0
MembersStandInUnit =
    (facts : List Entry) (unit number : ℕ) → IsEachOnce facts → Contains (members_of unit facts) number
    → (item : Equipment) × (equipment_of number facts ≡ Some item) × (item.component ≡ number) × (item.unit ≡ unit)

-- a component is a member of its process unit
abbrev pub ComponentsAreMembers : Type 0
ComponentsAreMembers =
    (facts : List Entry) (number : ℕ) (item : Equipment) → equipment_of number facts ≡ Some item
    → (item.component ≡ number) × Contains (members_of item.unit facts) number

-- what a fact of a ruly history needs was entered
pub record HasWhatItAsks (facts : List Entry) (entry : Entry) : Type 0 where
  pub unit : (number : ℕ) → unit_asked entry.1.body ≡ Some number → is_some (unit_entry_of number facts) ≡ true
  pub component : (number : ℕ) → component_asked entry.1.body ≡ Some number → is_some (equipment_of number facts) ≡ true

abbrev pub WhatIsAskedWasEntered : Type 0
WhatIsAskedWasEntered =
    (history : List Batch) → IsTrue (is_ruly history) → AllByRecursion (HasWhatItAsks (facts_of history)) (facts_of history)

-- the process unit of each component of a ruly history was entered
abbrev pub UnitOfComponentIsEntered : Type 0
UnitOfComponentIsEntered =
    (history : List Batch) (number : ℕ) (item : Equipment) → IsTrue (is_ruly history) → equipment_of number (facts_of history) ≡ Some item
    → (unit : UnitEntry) × (unit_entry_of item.unit (facts_of history) ≡ Some unit)

-- a history with one more batch is ruly exactly if it was ruly before and the batch passes after it
pub record IsRulyByOneMore (history : List Batch) (batch : Batch) : Type 0 where
  pub onward : IsTrue (is_ruly history) → verdict_on history batch ≡ Pass → IsTrue (is_ruly (history ++ batch ∷ []))
  pub back : IsTrue (is_ruly (history ++ batch ∷ [])) → IsTrue (is_ruly history) × (verdict_on history batch ≡ Pass)

abbrev pub OneMorePasses : Type 0
OneMorePasses = (history : List Batch) (batch : Batch) → IsRulyByOneMore history batch

-- what holds for the facts of a ruly history, and for those up to a day: startups and beginnings are at most 2097-12-31, each number is
-- entered only once, and members strictly ascend
pub record GivesRegister (facts : List Entry) : Type 0 where
  pub startups : (number : ℕ) (unit : UnitEntry) → unit_entry_of number facts ≡ Some unit → unit.startup ≤ LAST_FACT_DAY
  pub beginnings : (number : ℕ) (item : Equipment) → equipment_of number facts ≡ Some item → item.begin ≤ LAST_FACT_DAY
  pub once : IsEachOnce facts
  pub members : (unit : ℕ) → Ascends nat_lt (members_of unit facts)

abbrev pub RulyGivesRegister : Type 0
RulyGivesRegister =
    (history : List Batch) → IsTrue (is_ruly history) → GivesRegister (facts_of history) × ((t : ℕ) → GivesRegister (facts_to t history))
