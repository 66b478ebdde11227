-- Samples for examples and tests: one of each event, fact, rule, service, designation and kind.
use Rattle.std.specs.Prelude.{ℕ, true, false, None, List, [], ◌∷◌, map}
use Rattle.fact_kinds.specs.declared.body.FactBody.{FactBody}
use Rattle.fact_kinds.specs.declared.body.FactBody.TheVariants.{Unit as UnitFact, Component as ComponentFact, Class as ClassFact, Retire as RetireFact}
use Rattle.fact_kinds.specs.declared.body.FactBody.TheVariants.{Election, Shutdown, Calibration, Precision, Drift, Reading, Visual}
use Rattle.fact_kinds.specs.declared.body.FactBody.TheVariants.{Attempt as AttemptFact, Delay as DelayFact, Release as ReleaseFact, Indication}
use Rattle.fact_kinds.specs.declared.body.Purpose.TheVariants.{Routine}
use Rattle.fact_kinds.specs.declared.body.Sort.TheVariants.{Sensor as SensorSort}
use Rattle.fact_kinds.specs.declared.body.VisualState.TheVariants.{Drips}
use Rattle.fact_kinds.specs.declared.class.Designation.{Designation}
use Rattle.fact_kinds.specs.declared.class.Designation.TheVariants.{Plain, Nde, Unsafe, Difficult}
use Rattle.fact_kinds.specs.declared.class.Kind.{Kind}
use Rattle.fact_kinds.specs.declared.class.Kind.TheVariants.{Valve, Pump, Compressor, Relief}
use Rattle.fact_kinds.specs.declared.class.Service.{Service}
use Rattle.fact_kinds.specs.declared.class.Service.TheVariants.{Gas, Light, Heavy, Vacuum, Under300}
use Rattle.fact_kinds.specs.Facts.{Entry}
use Rattle.ldar_law.specs.declared.event.Happening.{Happening}
use Rattle.ldar_law.specs.declared.event.Happening.TheVariants.{Read, Look, Attempt, Delay, Release, Sensor, Evidence, Retire}
use Rattle.ldar_law.specs.declared.regime.Regime.{Regime}
use Rattle.ldar_law.specs.declared.regime.Regime.TheVariants.{ValveRules, PumpRules, CompressorRules, ReliefRules, HeavyLiquidRules, LeftOut}
use Rattle.ldar_law.specs.Short.{class, fact}

-- ---- events

-- a delay of this ground
abbrev pub delay_of_ground : ℕ → Happening
delay_of_ground why = Delay why 9 None

-- one event of each kind
abbrev pub each_happening : List Happening
each_happening =
    Read 20 0 true true true false ∷ Read 620 0 true true false true ∷ Read 20 0 true false false false
    ∷ Read 20 0 false true true false ∷ Read 620 0 false true false true
    ∷ Look false false false ∷ Look true false false ∷ Look true true true ∷ Attempt false ∷ Attempt true
    ∷ delay_of_ground 0 ∷ delay_of_ground 1 ∷ delay_of_ground 2 ∷ delay_of_ground 3 ∷ delay_of_ground 4 ∷ delay_of_ground 5
    ∷ Release ∷ Sensor true true ∷ Sensor false false ∷ Evidence true ∷ Evidence false ∷ Retire ∷ []

-- ---- facts

-- a fact of each kind; it names number 1 if it names one
abbrev pub each_fact : List FactBody
each_fact =
    UnitFact 1 false [] ∷ ComponentFact 1 1 Valve false false (class Gas Plain) ∷ ClassFact 1 (class Gas Plain) ∷ RetireFact 1 ∷ Election 1 1 1 ∷ Shutdown 1 1
    ∷ Calibration 1 500 ∷ Precision 1 500 (500, 500, 500) ∷ Drift 1 500 (440, 440, 440) ∷ Reading 1 1 1 Routine 20 0 ∷ Visual 1 Drips
    ∷ AttemptFact 1 false ∷ DelayFact 1 1 9 None ∷ ReleaseFact 1 ∷ Indication 1 SensorSort true ∷ []

-- a fact of each kind, with keys of one minute
abbrev pub each_entry : List Entry
each_entry = map (fact 1 0) each_fact

-- ---- what a component is

abbrev pub each_kind : List Kind
each_kind = Valve ∷ Pump ∷ Compressor ∷ Relief ∷ []

abbrev pub each_service : List Service
each_service = Gas ∷ Light ∷ Heavy ∷ Vacuum ∷ Under300 ∷ []

abbrev pub each_designation : List Designation
each_designation = Plain ∷ Nde ∷ Unsafe ∷ Difficult ∷ []

abbrev pub each_regime : List Regime
each_regime = ValveRules ∷ PumpRules ∷ CompressorRules ∷ ReliefRules ∷ HeavyLiquidRules ∷ LeftOut ∷ []
