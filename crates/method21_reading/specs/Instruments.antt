-- The facts of an instrument that decide on its readings, one list for each kind, and readings judged by these lists (40 CFR 60.485a(b)).
use Rattle.std.specs.Prelude.{◌≡◌, ℕ, ◌+◌, Bool, true, false, not, nat_eq, if◌then◌else◌, Option, Some, None, List, [], ◌∷◌, ◌++◌, filter, find}
use Rattle.fact_kinds.specs.declared.body.FactBody.{FactBody}
use Rattle.fact_kinds.specs.declared.body.FactBody.TheVariants.{Calibration, Precision, Drift}
use Rattle.fact_kinds.specs.declared.key.Key.{Key}
use Rattle.fact_kinds.specs.Facts.{Entry}
use Rattle.ldar_law.specs.declared.fitness.Fitness.{Fitness}
use Rattle.ldar_law.specs.declared.fitness.Fitness.TheVariants.{NoCalibration, GasTooHigh, NoPrecision}
use Rattle.ldar_law.specs.declared.numbers.TheConstants.{GAS_MARGIN}
use Rattle.ldar_law.specs.Fitness.{sum_of, is_precise, has_drifted, is_calibrated, is_calibrated_within, is_tested, is_voided_by, unless_voided}

-- a calibration
abbrev pub is_calibrating : FactBody → Bool
is_calibrating (Calibration of gas) = true
is_calibrating _ = false

-- a precision test that passed
abbrev pub is_passed_test : FactBody → Bool
is_passed_test (Precision of value readings) = is_precise value (sum_of readings)
is_passed_test _ = false

-- a drift assessment in which the mean is more than 10 percent below the known value
abbrev pub is_failed_drift : FactBody → Bool
is_failed_drift (Drift of value readings) = has_drifted value (sum_of readings)
is_failed_drift _ = false

-- the facts of the three kinds, each list in key order
pub record Apart : Type 0 where
  pub calibrations : List Entry
  pub tests : List Entry
  pub drifts : List Entry

-- the lists have exactly the facts of each kind among these facts
pub record AreThoseOf (facts : List Entry) (apart : Apart) : Type 0 where
  pub calibrations : apart.calibrations ≡ filter (λ e. is_calibrating e.1.body) facts
  pub tests : apart.tests ≡ filter (λ e. is_passed_test e.1.body) facts
  pub drifts : apart.drifts ≡ filter (λ e. is_failed_drift e.1.body) facts

-- the fact is of the day
abbrev pub is_of_day : ℕ → Entry → Bool
is_of_day day e = nat_eq e.0.day day

-- the fitness of a reading, judged by separate lists of calibrations, passed precision tests and failed drift assessments
abbrev pub fitness_apart : (calibrations tests drifts : List Entry) → ℕ → Key → ℕ → ℕ → Fitness
fitness_apart calibrations tests drifts limit key instrument ppm =
    if not (is_calibrated calibrations key instrument) then NoCalibration
    else if not (is_calibrated_within calibrations key instrument (limit + GAS_MARGIN)) then GasTooHigh
    else if not (is_tested tests key instrument) then NoPrecision
    else unless_voided (find (is_voided_by calibrations key instrument limit ppm) drifts)

-- why a reading may not be used if no earlier calibration of its day has a gas within the bound
abbrev pub without_gas_within : (calibrations : List Entry) → Key → ℕ → Fitness
without_gas_within calibrations key instrument = if is_calibrated calibrations key instrument then GasTooHigh else NoCalibration

-- the reason against a reading by the lists of calibrations and passed precision tests, if there is one
abbrev pub refusal_apart : (calibrations tests : List Entry) → ℕ → Key → ℕ → Option Fitness
refusal_apart calibrations tests limit key instrument =
    if not (is_calibrated calibrations key instrument) then Some NoCalibration
    else if not (is_calibrated_within calibrations key instrument (limit + GAS_MARGIN)) then Some GasTooHigh
    else if not (is_tested tests key instrument) then Some NoPrecision
    else None

-- a list with one more fact at its end, if the fact's body passes a test
abbrev pub added : (FactBody → Bool) → Entry → List Entry → List Entry
added test e es = es ++ (if test e.1.body then e ∷ [] else [])
