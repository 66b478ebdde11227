-- Readings that may be used, and readings that a drift voids (40 CFR 60.485a(b); EPA Method 21, sections 8.1.2 and 10.1).
use Rattle.std.specs.Prelude.{ℕ, ◌+◌, ◌-◌, ◌*◌, Bool, true, false, not, ◌&&◌, nat_eq, nat_lt, nat_le, if◌then◌else◌, Option, Some, None, List, find}
use Rattle.std.specs.List.{list_any}
use Rattle.ldar_days.specs.Calendar.{later_by}
use Rattle.fact_kinds.specs.declared.body.FactBody.{FactBody}
use Rattle.fact_kinds.specs.declared.body.FactBody.TheVariants.{Calibration, Precision, Drift}
use Rattle.fact_kinds.specs.declared.key.Key.{Key}
use Rattle.fact_kinds.specs.Facts.{Entry, is_earlier}
use Rattle.ldar_law.specs.declared.fitness.Fitness.{Fitness}
use Rattle.ldar_law.specs.declared.numbers.TheConstants.{GAS_MARGIN}
use Rattle.ldar_law.specs.declared.fitness.Fitness.TheVariants.{Fit, NoCalibration, GasTooHigh, NoPrecision, Voided}

-- the sum of three readings
abbrev pub sum_of : ℕ × ℕ × ℕ → ℕ
sum_of readings = readings.0 + readings.1 + readings.2

-- EPA Method 21, section 8.1.2: the mean of three readings is within 10 percent of the known value
abbrev pub is_precise : ℕ → ℕ → Bool
is_precise value sum = nat_le ((sum - 3 * value) * 10) (3 * value) && nat_le ((3 * value - sum) * 10) (3 * value)

-- 40 CFR 60.485a(b)(2): the mean of three readings is more than 10 percent below the known value
abbrev pub has_drifted : ℕ → ℕ → Bool
has_drifted value sum = nat_lt (3 * value) ((3 * value - sum) * 10)

-- 40 CFR 60.485a(b)(2): the reading is above the leak definition less the drift
abbrev pub is_above_drifted : ℕ → ℕ → ℕ → ℕ → Bool
is_above_drifted limit ppm value sum = nat_lt (limit * sum) (ppm * (3 * value))

-- a calibration of the instrument
abbrev pub is_calibration : ℕ → FactBody → Bool
is_calibration instrument (Calibration of gas) = nat_eq of instrument
is_calibration instrument _ = false

-- a calibration of the instrument with a gas of at most this concentration
abbrev pub is_calibration_within : ℕ → ℕ → FactBody → Bool
is_calibration_within instrument most (Calibration of gas) = nat_eq of instrument && nat_le gas most
is_calibration_within instrument most _ = false

-- a precision test of the instrument that passed
abbrev pub is_passed_precision : ℕ → FactBody → Bool
is_passed_precision instrument (Precision of value readings) = nat_eq of instrument && is_precise value (sum_of readings)
is_passed_precision instrument _ = false

-- a drift assessment of the instrument by which such a reading may be a leak
abbrev pub is_drift_past : ℕ → ℕ → ℕ → FactBody → Bool
is_drift_past instrument limit ppm (Drift of value readings) =
    nat_eq of instrument && has_drifted value (sum_of readings) && is_above_drifted limit ppm value (sum_of readings)
is_drift_past instrument limit ppm _ = false

-- the key of a reading and its instrument, judged by facts in key order
module _ (facts : List Entry) (key : Key) (instrument : ℕ) where
  -- some calibration of the day is earlier (40 CFR 60.485a(b)(1))
  abbrev pub is_calibrated : Bool
  is_calibrated = list_any (λ e. is_calibration instrument e.1.body && nat_eq e.0.day key.day && is_earlier e.0 key) facts

  -- some calibration of the day with a gas of at most this concentration is earlier
  abbrev pub is_calibrated_within : ℕ → Bool
  is_calibrated_within most =
      list_any (λ e. is_calibration_within instrument most e.1.body && nat_eq e.0.day key.day && is_earlier e.0 key) facts

  -- some precision test that passed is earlier, and at most three months old (EPA Method 21, section 8.1.2)
  abbrev pub is_tested : Bool
  is_tested =
      list_any (λ e. is_passed_precision instrument e.1.body && is_earlier e.0 key && nat_le key.day (later_by 3 e.0.day)) facts

  -- a calibration is between the reading and a later fact
  abbrev pub is_calibrated_before : Key → Bool
  is_calibrated_before later =
      list_any (λ e. is_calibration instrument e.1.body && is_earlier key e.0 && is_earlier e.0 later) facts

  -- 40 CFR 60.485a(b)(2): the fact is a later drift assessment of the day that voids a reading below the leak definition
  abbrev pub is_voided_by : ℕ → ℕ → Entry → Bool
  is_voided_by limit ppm e =
      nat_lt ppm limit && is_drift_past instrument limit ppm e.1.body && nat_eq e.0.day key.day && is_earlier key e.0
      && not (is_calibrated_before e.0)

-- fit, unless a drift assessment voids the reading
abbrev pub unless_voided : Option Entry → Fitness
unless_voided None = Fit
unless_voided (Some drift) = Voided drift.0

-- 40 CFR 60.485a(b): whether a reading is fit, by a leak definition and facts in key order; otherwise the first reason why not
abbrev pub fitness_of : List Entry → ℕ → Key → ℕ → ℕ → Fitness
fitness_of facts limit key instrument ppm =
    if not (is_calibrated facts key instrument) then NoCalibration
    else if not (is_calibrated_within facts key instrument (limit + GAS_MARGIN)) then GasTooHigh
    else if not (is_tested facts key instrument) then NoPrecision
    else unless_voided (find (is_voided_by facts key instrument limit ppm) facts)

-- the reading may be used
abbrev pub is_fit : Fitness → Bool
is_fit Fit = true
is_fit _ = false
