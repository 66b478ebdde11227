-- What is true inside every register.
use Rattle.std.specs.Prelude.{◌≡◌, ℕ, ◌≤◌, None, Vec, Option, List, length}
use Rattle.fact_kinds.specs.declared.limits.TheConstants.{MOST_FACTS}
use Rattle.list_words.specs.Order.{AllApart}
use Rattle.fact_kinds.specs.declared.class.Class.{Class}
use Rattle.fact_kinds.specs.declared.key.Key.{Key}
use Rattle.fact_kinds.specs.Facts.{Entry, goes_first}
use Rattle.fact_kinds.specs.Named.{component_of, unit_of}
use Rattle.fact_store.specs.Kept.{Kept, facts_in}
use Rattle.fact_store.specs.Lists.{items_in}
use Rattle.fact_store.specs.Naming.{HasRoomFor}
use Rattle.ldar_law.specs.declared.unit_entry.UnitEntry.{UnitEntry}
use Rattle.ldar_law.specs.Equipment.{retired_on, classes_of, unit_entry_of, members_of}
use Rattle.ldar_law.specs.Judged.{first_entry}
use Rattle.component_register.specs.declared.slots.Slot.{Slot}
use Rattle.component_register.specs.Classes.{class_named, IsByDay}
use Rattle.component_register.specs.Members.{unit_joined}
use Rattle.component_register.specs.Once.{AreEnteredOnce}
use Rattle.component_register.specs.Slots.{row_in, no_slot, HaveRows}

-- what some facts in key order say of a component, apart from its classes
abbrev pub slot_by : ℕ → List Entry → Slot
slot_by number facts = record { entered = first_entry number facts; retired = retired_on number facts }

-- what is held by number is what some facts in key order say
pub record Holds {Z : Type 0} (facts : List Entry) (slots : List Slot) (units : List (Option UnitEntry))
    (classes : List (Vec (Key × Class) Z)) (rosters : List (Vec ℕ Z)) : Type 0 where
  pub slot : (number : ℕ) → row_in no_slot slots number ≡ slot_by number facts
  pub unit : (number : ℕ) → row_in None units number ≡ unit_entry_of number facts
  pub listed : (number : ℕ) → IsByDay (items_in classes number) (classes_of number facts)
  pub members : (number : ℕ) → items_in rosters number ≡ members_of number facts

-- what is true inside every register
pub record IsSound {Z : Type 0} (kept : Kept) (slots : List Slot) (units : List (Option UnitEntry))
    (classes : List (Vec (Key × Class) Z)) (rosters : List (Vec ℕ Z)) : Type 0 where
  pub apart : AllApart goes_first kept.arrived
  pub few : length kept.arrived ≤ MOST_FACTS
  pub once : AreEnteredOnce (facts_in kept)
  pub holds : Holds (facts_in kept) slots units classes rosters
  pub slot_room : HaveRows component_of kept.spare slots
  pub unit_room : HaveRows unit_of kept.spare units
  pub class_room : HasRoomFor class_named kept.spare classes
  pub member_room : HasRoomFor unit_joined kept.spare rosters
