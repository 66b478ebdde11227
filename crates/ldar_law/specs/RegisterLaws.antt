-- Laws about the register: the statements of `laws::register`.
use Rattle.std.specs.Prelude.{◌≡◌, ◌↔◌, ℕ, Bool, false, ◌&&◌, nat_eq, nat_le, is_some, if◌then◌else◌, Option, Some, None, List, ◌∷◌, Contains}
use Rattle.std.specs.List.{list_any}
use Rattle.list_words.specs.Order.{in_order, later_of, Ascends}
use Rattle.fact_kinds.specs.declared.body.FactBody.{FactBody}
use Rattle.fact_kinds.specs.declared.body.FactBody.TheVariants.{Unit as UnitFact, Component as ComponentFact, Class as ClassFact}
use Rattle.fact_kinds.specs.declared.class.Class.{Class}
use Rattle.fact_kinds.specs.declared.key.Key.{Key}
use Rattle.fact_kinds.specs.Facts.{Entry, is_earlier, goes_first}
use Rattle.ldar_law.specs.Equipment.{retires, retired_on, equipment_of, class_at, classes_of, unit_entry_of, member_entered, members_of, elections_of, stops_of}
use Rattle.ldar_law.specs.Equipment.{of_unit}
use Rattle.ldar_law.specs.Force.{class_by, class_in_force, has_come}
use Rattle.ldar_law.specs.Slices.{facts_of_component, facts_of_unit, register_facts}

-- a part of the facts has everything that the register has about a component
pub record HasComponent (number : ℕ) (part facts : List Entry) : Type 0 where
  pub equipment : equipment_of number part ≡ equipment_of number facts
  pub classes : classes_of number part ≡ classes_of number facts

-- a part of the facts has everything that the register has about a process unit
pub record HasUnit (number : ℕ) (part facts : List Entry) : Type 0 where
  pub entry : unit_entry_of number part ≡ unit_entry_of number facts
  pub members : members_of number part ≡ members_of number facts
  pub elections : elections_of number part ≡ elections_of number facts
  pub stops : stops_of number part ≡ stops_of number facts

-- the facts that name a component have everything that the register has about it
abbrev pub OwnFactsSuffice : Type 0
OwnFactsSuffice = (number : ℕ) (facts : List Entry) → HasComponent number (facts_of_component number facts) facts

-- the facts that name a process unit have everything that the register has about it
abbrev pub UnitFactsSuffice : Type 0
UnitFactsSuffice = (number : ℕ) (facts : List Entry) → HasUnit number (facts_of_unit number facts) facts

-- the facts that name a process unit have everything that decides on its components
abbrev pub UnitFactsJudge : Type 0
UnitFactsJudge = (number : ℕ) (facts : List Entry) → of_unit number (facts_of_unit number facts) ≡ of_unit number facts

-- the entries in the register have everything that the register has
abbrev pub RegisterFactsSuffice : Type 0
RegisterFactsSuffice =
    (number : ℕ) (facts : List Entry) → HasComponent number (register_facts facts) facts × HasUnit number (register_facts facts) facts

-- by facts in key order, a component is retired on a day exactly if some fact of that day or before retires it; a key may occur twice
abbrev pub RetiredBySome : Type 0
RetiredBySome =
    (number day : ℕ) (entries : List Entry)
    → has_come (retired_on number (in_order goes_first entries)) day ≡ list_any (λ e. retires number e.1.body && nat_le e.0.day day) entries

-- a fact that enters the component
abbrev pub enters_component : ℕ → FactBody → Bool
enters_component number (ComponentFact other _ _ _ _ _) = nat_eq other number
enters_component number _ = false

-- a fact that enters the process unit
abbrev pub enters_unit : ℕ → FactBody → Bool
enters_unit number (UnitFact other _ _) = nat_eq other number
enters_unit number _ = false

-- a fact that enters a class of the component
abbrev pub enters_class : ℕ → FactBody → Bool
enters_class number (ClassFact other _) = nat_eq other number
enters_class number _ = false

-- a component, and a class of it in force on each day, exist exactly if some fact enters the component
abbrev pub ComponentWhereEntered : Type 0
ComponentWhereEntered =
    (number : ℕ) (facts : List Entry)
    → (is_some (equipment_of number facts) ≡ list_any (λ e. enters_component number e.1.body) facts)
    × ((day : ℕ) → is_some (class_in_force number facts day) ≡ list_any (λ e. enters_component number e.1.body) facts)

-- a process unit exists exactly if some fact enters it
abbrev pub UnitWhereEntered : Type 0
UnitWhereEntered =
    (number : ℕ) (facts : List Entry) → is_some (unit_entry_of number facts) ≡ list_any (λ e. enters_unit number e.1.body) facts

-- a last class by a day exists exactly if some fact of that day or before enters a class of the component
abbrev pub ClassWhereEntered : Type 0
ClassWhereEntered =
    (number day : ℕ) (facts : List Entry)
    → is_some (class_by day (classes_of number facts)) ≡ list_any (λ e. enters_class number e.1.body && nat_le e.0.day day) facts

-- a fact that enters a component in a process unit
pub record EntersMember (number component : ℕ) (facts : List Entry) : Type 0 where
  pub entry : Entry
  pub held : Contains facts entry
  pub enters : member_entered number entry.1.body ≡ Some component

-- the members of a process unit are the components that facts enter in it, ascending by number
abbrev pub MembersAreEntered : Type 0
MembersAreEntered =
    (number : ℕ) (facts : List Entry)
    → ((component : ℕ) → Contains (members_of number facts) component ↔ EntersMember number component facts)
    × Ascends nat_le (members_of number facts)

-- the class with the earlier key is first
abbrev pub class_first : Key × Class → Key × Class → Bool
class_first a b = is_earlier a.0 b.0

-- the last class by a day, after one more fact that may enter a class
abbrev pub with_class : ℕ → Option (Key × Class) → Option (Key × Class) → Option (Key × Class)
with_class day None old = old
with_class day (Some new) old = if nat_le new.0.day day then later_of class_first new old else old

-- after one more fact, the class in force is the later of the one before and the one that the fact enters; the new one wins a tie. A key
-- may occur twice.
abbrev pub OneMoreFactInForce : Type 0
OneMoreFactInForce =
    (number day : ℕ) (entry : Entry) (entries : List Entry)
    → class_by day (classes_of number (in_order goes_first (entry ∷ entries)))
    ≡ with_class day (class_at number entry) (class_by day (classes_of number (in_order goes_first entries)))
