-- Numbers that are entered once.
use Rattle.std.specs.Prelude.{◌≡◌, ℕ, ◌≤◌, None, List, count_by}
use Rattle.fact_kinds.specs.declared.body.FactBody.{FactBody}
use Rattle.fact_kinds.specs.declared.body.FactBody.TheVariants.{Unit as UnitFact, Component as ComponentFact, Class as ClassFact, Retire, Election, Shutdown}
use Rattle.fact_kinds.specs.declared.body.FactBody.TheVariants.{Calibration, Precision, Drift, Reading, Visual, Attempt, Delay, Release, Indication}
use Rattle.fact_kinds.specs.Facts.{Entry}
use Rattle.ldar_law.specs.Equipment.{equipment_of, unit_entry_of}
use Rattle.ldar_law.specs.RegisterLaws.{enters_component, enters_unit}

-- a fact that enters a process unit or a component is the first of its number
abbrev pub IsFirstOfNumber : FactBody → List Entry → Type 0
IsFirstOfNumber (UnitFact unit _ _) facts = unit_entry_of unit facts ≡ None
IsFirstOfNumber (ComponentFact component _ _ _ _ _) facts = equipment_of component facts ≡ None
IsFirstOfNumber (ClassFact _ _) facts = Unit {0}
IsFirstOfNumber (Retire _) facts = Unit {0}
IsFirstOfNumber (Election _ _ _) facts = Unit {0}
IsFirstOfNumber (Shutdown _ _) facts = Unit {0}
IsFirstOfNumber (Calibration _ _) facts = Unit {0}
IsFirstOfNumber (Precision _ _ _) facts = Unit {0}
IsFirstOfNumber (Drift _ _ _) facts = Unit {0}
IsFirstOfNumber (Reading _ _ _ _ _ _) facts = Unit {0}
IsFirstOfNumber (Visual _ _) facts = Unit {0}
IsFirstOfNumber (Attempt _ _) facts = Unit {0}
IsFirstOfNumber (Delay _ _ _ _) facts = Unit {0}
IsFirstOfNumber (Release _) facts = Unit {0}
IsFirstOfNumber (Indication _ _ _) facts = Unit {0}

-- no component and no process unit is entered twice
pub record AreEnteredOnce (facts : List Entry) : Type 0 where
  pub components : (number : ℕ) → count_by (λ e. enters_component number e.1.body) facts ≤ 1
  pub units : (number : ℕ) → count_by (λ e. enters_unit number e.1.body) facts ≤ 1
