-- What is known of a process unit and its components, as the views have it.
use Rattle.std.specs.Prelude.{◌≡◌, ℕ, ◌≤◌, List, length, filter_map, option_map}
use Rattle.fact_kinds.specs.Facts.{Entry}
use Rattle.ldar_law.specs.declared.numbers.TheConstants.{MOST_COMPONENTS}
use Rattle.ldar_law.specs.Equipment.{elections_of, equipment_of, stops_of}
use Rattle.ldar_law.specs.Units.{Known, components_of, known_of}
use Rattle.unit_summaries.specs.Known.{AreInOrder, all_in_law}
use Rattle.office_views.specs.declared.unit.Unit.{Unit as OneUnit}

-- what is known of those of these numbers that the facts enter
abbrev pub known_among : List Entry → List ℕ → List Known
known_among facts numbers = filter_map (λ number. option_map (known_of facts) (equipment_of number facts)) numbers

-- the shutdowns and elections that the facts up to a day enter for the process unit of a number, and its components as these facts know them
pub record IsUnitOf (number : ℕ) (facts : List Entry) (unit : OneUnit) : Type 0 where
  pub stops : unit.stops.now ≡ stops_of number facts
  pub elections : unit.elections.now ≡ elections_of number facts
  pub components : all_in_law unit.stops.now unit.components.items ≡ components_of number facts
  pub few : length unit.components.items ≤ MOST_COMPONENTS
  pub ordered : AreInOrder unit.components.items
