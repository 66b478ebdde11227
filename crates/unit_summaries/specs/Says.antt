-- Summaries: what facts in key order say of a component and of a process unit.
use Rattle.std.specs.Prelude.{◌≡◌, ℕ, Option, Some, None, List}
use Rattle.fact_kinds.specs.Facts.{Entry}
use Rattle.ldar_law.specs.Equipment.{classes_of, elections_of, equipment_of, of_unit}
use Rattle.ldar_law.specs.Events.{events_in}
use Rattle.ldar_law.specs.Force.{limit_on}
use Rattle.ldar_law.specs.Spans.{spans_of}
use Rattle.unit_summaries.specs.declared.summary.Summary.{Summary}
use Rattle.unit_summaries.specs.declared.summary.UnitSummary.{UnitSummary}

-- the classes, events and tags are those of the component by these facts
pub record Judges (facts : List Entry) (s : Summary) : Type 0 where
  pub classes : s.classes ≡ classes_of s.item.component facts
  pub events : s.events ≡ events_in s.item s.classes (limit_on s.item s.classes) facts
  pub spans : s.spans ≡ spans_of s.item.kind s.events

-- a component is the one of its number by these facts, and so are its classes, events and tags
pub record Says (facts : List Entry) (number : ℕ) (s : Summary) : Type 0 where
  pub named : s.item.component ≡ number
  pub equipment : equipment_of number facts ≡ Some s.item
  pub judged : Judges facts s

-- the shutdowns and elections are those of the process unit by these facts
pub record SaysUnit (facts : List Entry) (number : ℕ) (s : UnitSummary) : Type 0 where
  pub of_unit : s.of_unit ≡ of_unit number facts
  pub elections : s.elections ≡ elections_of number facts

-- there is such a summary
abbrev pub IsSaid : List Entry → ℕ → Option Summary → Type 0
IsSaid facts number None = ⊥
IsSaid facts number (Some s) = Says facts number s

abbrev pub IsUnitSaid : List Entry → ℕ → Option UnitSummary → Type 0
IsUnitSaid facts number None = ⊥
IsUnitSaid facts number (Some s) = SaysUnit facts number s
