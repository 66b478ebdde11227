-- The component, process unit and instrument of a fact. Every kind is listed, so that a new one has to be added here.
use Rattle.std.specs.Prelude.{ℕ, Bool, false, nat_eq, Option, Some, None}
use Rattle.fact_kinds.specs.declared.body.FactBody.{FactBody}
use Rattle.fact_kinds.specs.declared.body.FactBody.TheVariants.{Unit as UnitFact, Component as ComponentFact, Class as ClassFact, Retire, Election}
use Rattle.fact_kinds.specs.declared.body.FactBody.TheVariants.{Shutdown, Calibration, Precision, Drift, Reading, Visual, Attempt, Delay, Release}
use Rattle.fact_kinds.specs.declared.body.FactBody.TheVariants.{Indication}

-- the component of a fact, if its kind has one
abbrev pub component_of : FactBody → Option ℕ
component_of (ComponentFact c _ _ _ _ _) = Some c
component_of (ClassFact c _) = Some c
component_of (Retire c) = Some c
component_of (Reading c _ _ _ _ _) = Some c
component_of (Visual c _) = Some c
component_of (Attempt c _) = Some c
component_of (Delay c _ _ _) = Some c
component_of (Release c) = Some c
component_of (Indication c _ _) = Some c
component_of (UnitFact _ _ _) = None
component_of (Election _ _ _) = None
component_of (Shutdown _ _) = None
component_of (Calibration _ _) = None
component_of (Precision _ _ _) = None
component_of (Drift _ _ _) = None

-- the process unit of a fact, if its kind has one
abbrev pub unit_of : FactBody → Option ℕ
unit_of (UnitFact u _ _) = Some u
unit_of (ComponentFact _ u _ _ _ _) = Some u
unit_of (Election u _ _) = Some u
unit_of (Shutdown u _) = Some u
unit_of (ClassFact _ _) = None
unit_of (Retire _) = None
unit_of (Calibration _ _) = None
unit_of (Precision _ _ _) = None
unit_of (Drift _ _ _) = None
unit_of (Reading _ _ _ _ _ _) = None
unit_of (Visual _ _) = None
unit_of (Attempt _ _) = None
unit_of (Delay _ _ _ _) = None
unit_of (Release _) = None
unit_of (Indication _ _ _) = None

-- the instrument of a calibration, a precision test or a drift assessment
abbrev pub tested_instrument : FactBody → Option ℕ
tested_instrument (Calibration i _) = Some i
tested_instrument (Precision i _ _) = Some i
tested_instrument (Drift i _ _) = Some i
tested_instrument (UnitFact _ _ _) = None
tested_instrument (ComponentFact _ _ _ _ _ _) = None
tested_instrument (ClassFact _ _) = None
tested_instrument (Retire _) = None
tested_instrument (Election _ _ _) = None
tested_instrument (Shutdown _ _) = None
tested_instrument (Reading _ _ _ _ _ _) = None
tested_instrument (Visual _ _) = None
tested_instrument (Attempt _ _) = None
tested_instrument (Delay _ _ _ _) = None
tested_instrument (Release _) = None
tested_instrument (Indication _ _ _) = None

-- the instrument of a reading, 0 if it has none
abbrev pub reading_instrument : FactBody → Option ℕ
reading_instrument (Reading _ i _ _ _ _) = Some i
reading_instrument (UnitFact _ _ _) = None
reading_instrument (ComponentFact _ _ _ _ _ _) = None
reading_instrument (ClassFact _ _) = None
reading_instrument (Retire _) = None
reading_instrument (Election _ _ _) = None
reading_instrument (Shutdown _ _) = None
reading_instrument (Calibration _ _) = None
reading_instrument (Precision _ _ _) = None
reading_instrument (Drift _ _ _) = None
reading_instrument (Visual _ _) = None
reading_instrument (Attempt _ _) = None
reading_instrument (Delay _ _ _ _) = None
reading_instrument (Release _) = None
reading_instrument (Indication _ _ _) = None

-- the optional number is this one
abbrev pub is_numbered : Option ℕ → ℕ → Bool
is_numbered None n = false
is_numbered (Some m) n = nat_eq m n
