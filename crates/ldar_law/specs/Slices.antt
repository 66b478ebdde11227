-- Parts of the facts, each in key order: of a component, of a process unit, of an instrument, and of the register.
use Rattle.std.specs.Prelude.{ℕ, Bool, true, false, List, filter}
use Rattle.fact_kinds.specs.declared.body.FactBody.{FactBody}
use Rattle.fact_kinds.specs.declared.body.FactBody.TheVariants.{Unit as UnitFact, Component as ComponentFact, Class as ClassFact, Retire, Election, Shutdown}
use Rattle.fact_kinds.specs.declared.body.FactBody.TheVariants.{Calibration, Precision, Drift, Reading, Visual, Attempt, Delay, Release, Indication}
use Rattle.fact_kinds.specs.Facts.{Entry}
use Rattle.fact_kinds.specs.Named.{component_of, unit_of, tested_instrument, reading_instrument, is_numbered}

-- the facts that name a component
abbrev pub facts_of_component : ℕ → List Entry → List Entry
facts_of_component number facts = filter (λ e. is_numbered (component_of e.1.body) number) facts

-- the facts that name a process unit
abbrev pub facts_of_unit : ℕ → List Entry → List Entry
facts_of_unit number facts = filter (λ e. is_numbered (unit_of e.1.body) number) facts

-- the calibrations, precision tests and drift assessments of an instrument
abbrev pub facts_of_instrument : ℕ → List Entry → List Entry
facts_of_instrument number facts = filter (λ e. is_numbered (tested_instrument e.1.body) number) facts

-- the readings taken with an instrument
abbrev pub readings_of_instrument : ℕ → List Entry → List Entry
readings_of_instrument number facts = filter (λ e. is_numbered (reading_instrument e.1.body) number) facts

-- the fact is an entry in the register
abbrev pub is_registered : FactBody → Bool
is_registered (UnitFact _ _ _) = true
is_registered (ComponentFact _ _ _ _ _ _) = true
is_registered (ClassFact _ _) = true
is_registered (Retire _) = true
is_registered (Election _ _ _) = true
is_registered (Shutdown _ _) = true
is_registered (Calibration _ _) = false
is_registered (Precision _ _ _) = false
is_registered (Drift _ _ _) = false
is_registered (Reading _ _ _ _ _ _) = false
is_registered (Visual _ _) = false
is_registered (Attempt _ _) = false
is_registered (Delay _ _ _ _) = false
is_registered (Release _) = false
is_registered (Indication _ _ _) = false

-- the entries in the register
abbrev pub register_facts : List Entry → List Entry
register_facts facts = filter (λ e. is_registered e.1.body) facts
