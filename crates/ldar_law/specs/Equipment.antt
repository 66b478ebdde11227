-- What facts in key order enter into the register: components, classes, process units, elections and shutdowns (40 CFR 60.486a(e)(1),
-- 60.481a).
use Rattle.std.specs.Prelude.{ℕ, ◌+◌, ◌-◌, Bool, false, nat_eq, nat_lt, if◌then◌else◌, Option, Some, None, List, find, filter_map, slice_get, option_map}
use Rattle.list_words.specs.Order.{in_order}
use Rattle.ldar_days.specs.Calendar.{end_by}
use Rattle.fact_kinds.specs.declared.body.FactBody.{FactBody}
use Rattle.fact_kinds.specs.declared.body.FactBody.TheVariants.{Unit as UnitFact, Component as ComponentFact, Class as ClassFact, Retire, Election, Shutdown}
use Rattle.fact_kinds.specs.declared.class.Class.{Class}
use Rattle.fact_kinds.specs.declared.key.Key.{Key}
use Rattle.fact_kinds.specs.Facts.{Entry}
use Rattle.ldar_law.specs.declared.delay.Stop.{Stop}
use Rattle.ldar_law.specs.declared.election.ElectionEntry.{ElectionEntry}
use Rattle.ldar_law.specs.declared.equipment.Equipment.{Equipment}
use Rattle.ldar_law.specs.declared.of_unit.OfUnit.{OfUnit}
use Rattle.ldar_law.specs.declared.unit_entry.UnitEntry.{UnitEntry}

-- the fact takes the component out of service
abbrev pub retires : ℕ → FactBody → Bool
retires number (Retire other) = nat_eq other number
retires number _ = false

-- the first day from which the component is out of service
abbrev pub retired_on : ℕ → List Entry → Option ℕ
retired_on number facts = option_map (λ e. e.0.day) (find (λ e. retires number e.1.body) facts)

-- the component, as a fact of this day enters it
abbrev pub component_entered : ℕ → Option ℕ → ℕ → FactBody → Option Equipment
component_entered number retired day (ComponentFact other unit kind monomer replaces class) =
    if nat_eq other number
    then Some (record { component = number; unit = unit; kind = kind; monomer = monomer; replaces = replaces; begin = day; retired = retired; class = class })
    else None
component_entered number retired day _ = None

-- the component, as the first fact that enters it has it
abbrev pub equipment_of : ℕ → List Entry → Option Equipment
equipment_of number facts = slice_get (filter_map (λ e. component_entered number (retired_on number facts) e.0.day e.1.body) facts) 0

-- the class that a fact enters for the component
abbrev pub class_entered : ℕ → FactBody → Option Class
class_entered number (ClassFact other class) = if nat_eq other number then Some class else None
class_entered number _ = None

-- the class that a fact enters for the component, with the key of the fact
abbrev pub class_at : ℕ → Entry → Option (Key × Class)
class_at number e = option_map (λ class. (e.0, class)) (class_entered number e.1.body)

-- the classes entered for the component, in key order
abbrev pub classes_of : ℕ → List Entry → List (Key × Class)
classes_of number facts = filter_map (class_at number) facts

-- the process unit, as a fact of this day enters it: it started up on that day (40 CFR 60.481a)
abbrev pub unit_entered : ℕ → ℕ → FactBody → Option UnitEntry
unit_entered number day (UnitFact other older name) =
    if nat_eq other number then Some (record { unit = number; name = name; startup = day; older = older }) else None
unit_entered number day _ = None

-- the process unit, as the first fact that enters it has it
abbrev pub unit_entry_of : ℕ → List Entry → Option UnitEntry
unit_entry_of number facts = slice_get (filter_map (λ e. unit_entered number e.0.day e.1.body) facts) 0

-- the component that a fact enters in the process unit
abbrev pub member_entered : ℕ → FactBody → Option ℕ
member_entered number (ComponentFact component other _ _ _ _) = if nat_eq other number then Some component else None
member_entered number _ = None

-- the components of the process unit, ascending by number; a retired one stays
abbrev pub members_of : ℕ → List Entry → List ℕ
members_of number facts = in_order nat_lt (filter_map (λ e. member_entered number e.1.body) facts)

-- the election of a skip period program that a fact enters for the process unit (40 CFR 60.483-2a)
abbrev pub election_entered : ℕ → Key → FactBody → Option ElectionEntry
election_entered number key (Election other mode _) = if nat_eq other number then Some (record { key = key; mode = mode }) else None
election_entered number key _ = None

-- the elections of the process unit, in key order
abbrev pub elections_of : ℕ → List Entry → List ElectionEntry
elections_of number facts = filter_map (λ e. election_entered number e.0 e.1.body) facts

-- the shutdown of the process unit that a fact of this day enters. A shutdown that would end after 2099-12-31 ends on that day (our own
-- rule).
abbrev pub stop_entered : ℕ → ℕ → FactBody → Option Stop
stop_entered number day (Shutdown other days) =
    if nat_eq other number then Some (record { first = day; last = end_by (day + days - 1) }) else None
stop_entered number day _ = None

-- the shutdowns of the process unit, in key order, which is the order of their first days
abbrev pub stops_of : ℕ → List Entry → List Stop
stops_of number facts = filter_map (λ e. stop_entered number e.0.day e.1.body) facts

-- what the facts enter for the process unit that decides on its components
abbrev pub of_unit : ℕ → List Entry → OfUnit
of_unit number facts = record { stops = stops_of number facts }
