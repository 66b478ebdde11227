-- Laws about the numbers of valves in service and of difficult-to-monitor valves in a process unit, counted fact by fact.
use Rattle.std.specs.Prelude.{◌≡◌, ℕ, ◌+◌, ◌≤◌, Bool, ◌&&◌, nat_eq, if◌then◌else◌, Option, Some, None, List, [], ◌∷◌, ◌++◌, length, count_by, sum_by}
use Rattle.fact_kinds.specs.Facts.{Entry}
use Rattle.fact_kinds.specs.Named.{component_of}
use Rattle.ldar_law.specs.declared.equipment.Equipment.{Equipment}
use Rattle.ldar_law.specs.Equipment.{members_of}
use Rattle.ldar_law.specs.Judged.{Register, register_with, first_entry, class_held}
use Rattle.ldar_law.specs.Kinds.{is_valve}
use Rattle.ldar_law.specs.RegisterLaws.{enters_component}
use Rattle.ldar_law.specs.Denials.{components_once, serves_on, valves_in_service, difficult_among}
use Rattle.ldar_law.specs.Standing.{is_difficult_designated}

-- the component is a valve of the process unit, in service on the day
abbrev pub counts_as_valve : ℕ → ℕ → Register → Equipment → Bool
counts_as_valve unit day register item = nat_eq item.unit unit && is_valve item.kind && serves_on register day item

-- the component is a valve of the process unit, in service and difficult to monitor on the day
abbrev pub counts_as_difficult : ℕ → ℕ → Register → Equipment → Bool
counts_as_difficult unit day register item =
    counts_as_valve unit day register item && is_difficult_designated (class_held register item day).designation

-- 1 if the component was entered and passes the test, 0 otherwise
abbrev pub counted : (Equipment → Bool) → Option Equipment → ℕ
counted test None = 0
counted test (Some item) = if test item then 1 else 0

-- what a component adds to a count, by its number in the register
abbrev pub adds : (Register → Equipment → Bool) → Register → ℕ → ℕ
adds test register number = counted (test register) (first_entry number register.entered)

-- the number of components that pass the test
abbrev pub count_in : (Register → Equipment → Bool) → Register → ℕ
count_in test register = count_by (test register) (components_once register)

-- the valves in service and the difficult ones are as many as pass the two tests
pub record CountsValves (unit day : ℕ) (register : Register) : Type 0 where
  pub valves : length (valves_in_service register unit day) ≡ count_in (counts_as_valve unit day) register
  pub difficult : length (difficult_among register day (valves_in_service register unit day)) ≡ count_in (counts_as_difficult unit day) register

-- for each unit and day, the two numbers of valves are such counts
abbrev pub ValvesAreCounted : Type 0
ValvesAreCounted = (unit day : ℕ) (register : Register) → CountsValves unit day register

-- one more fact changes a count only by what its component adds
abbrev pub ChangesByOne : (Register → Equipment → Bool) → List Entry → List Entry → Entry → ℕ → Type 0
ChangesByOne test held more entry number =
    count_in test (register_with held (more ++ entry ∷ [])) + adds test (register_with held more) number
    ≡ count_in test (register_with held more) + adds test (register_with held (more ++ entry ∷ [])) number

-- one more fact changes both counts only by what its component adds
abbrev pub OneMoreFactCounts : Type 0
OneMoreFactCounts =
    (unit day number : ℕ) (held more : List Entry) (entry : Entry) → component_of entry.1.body ≡ Some number
    → ChangesByOne (counts_as_valve unit day) held more entry number × ChangesByOne (counts_as_difficult unit day) held more entry number

-- one more fact does not change a count
abbrev pub StaysSo : (Register → Equipment → Bool) → List Entry → List Entry → Entry → Type 0
StaysSo test held more entry = count_in test (register_with held (more ++ entry ∷ [])) ≡ count_in test (register_with held more)

-- a fact that names no component changes neither count
abbrev pub OtherFactsCountNothing : Type 0
OtherFactsCountNothing =
    (unit day : ℕ) (held more : List Entry) (entry : Entry) → component_of entry.1.body ≡ None
    → StaysSo (counts_as_valve unit day) held more entry × StaysSo (counts_as_difficult unit day) held more entry

-- a count is the sum of what the members of the process unit add
abbrev pub MembersAdd : (Register → Equipment → Bool) → ℕ → List Entry → Type 0
MembersAdd test unit held = count_in test (register_with held []) ≡ sum_by (adds test (register_with held [])) (members_of unit held)

-- if no component was entered twice, both counts are sums over the members of the process unit
abbrev pub MembersCount : Type 0
MembersCount =
    (unit day : ℕ) (held : List Entry) → ((number : ℕ) → count_by (λ e. enters_component number e.1.body) held ≤ 1)
    → MembersAdd (counts_as_valve unit day) unit held × MembersAdd (counts_as_difficult unit day) unit held
