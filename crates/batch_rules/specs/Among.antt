-- What some facts of a batch enter: components, process units and retirements.
use Rattle.std.specs.Prelude.{ℕ, Bool, true, ◌&&◌, nat_le, Option, Some, None, List, slice_get}
use Rattle.std.specs.List.{filter_map, list_all, list_any}
use Rattle.fact_kinds.specs.declared.body.FactBody.{FactBody}
use Rattle.fact_kinds.specs.Stated.{Stated}
use Rattle.ldar_law.specs.declared.equipment.Equipment.{Equipment}
use Rattle.ldar_law.specs.declared.unit_entry.UnitEntry.{UnitEntry}
use Rattle.ldar_law.specs.Denials.{number_entered}
use Rattle.ldar_law.specs.Equipment.{retires, component_entered, unit_entered}

-- the component from its first entry among some facts of a batch
abbrev pub entered_among : ℕ → List Stated → Option Equipment
entered_among number facts = slice_get (filter_map (λ f. component_entered number None f.day f.body) facts) 0

-- the process unit from its first entry among them
abbrev pub unit_among : ℕ → List Stated → Option UnitEntry
unit_among number facts = slice_get (filter_map (λ f. unit_entered number f.day f.body) facts) 0

-- some fact of a batch retires the component by the day
abbrev pub retired_among : ℕ → ℕ → List Stated → Bool
retired_among number day facts = list_any (λ f. retires number f.body && nat_le f.day day) facts

-- the number of the component that a fact enters, or 0
abbrev pub entered_or_0 : FactBody → ℕ
entered_or_0 body = elim (number_entered body) [
  | None ↦ 0
  | Some number ↦ number
]

-- no fact enters a component above the number, if there is a number
abbrev pub are_up_to : Option ℕ → List Stated → Bool
are_up_to None facts = true
are_up_to (Some greatest) facts = list_all (λ f. nat_le (entered_or_0 f.body) greatest) facts
