-- For each calibration, the least gas of the calibrations of its instrument on its day, up to that calibration.
use Rattle.std.specs.Prelude.{◌≡◌, ℕ, ◌+◌, ◌<◌, ◌≤◌, min, Bool, true, ◌&&◌, nat_eq, nat_le, Option, Some, None, List, length, take, get_or}
use Rattle.std.specs.List.{list_any}
use Rattle.fact_kinds.specs.declared.body.FactBody.{FactBody}
use Rattle.fact_kinds.specs.declared.body.FactBody.TheVariants.{Calibration}
use Rattle.fact_kinds.specs.Facts.{Entry}
use Rattle.ldar_law.specs.Fitness.{is_calibration, is_calibration_within}

-- a calibration of the instrument on the day
abbrev pub calibrates_on : ℕ → ℕ → Entry → Bool
calibrates_on instrument day e = is_calibration instrument e.1.body && nat_eq e.0.day day

-- a calibration of the instrument on the day with a gas of at most this concentration
abbrev pub calibrates_within_on : ℕ → ℕ → ℕ → Entry → Bool
calibrates_within_on instrument most day e = is_calibration_within instrument most e.1.body && nat_eq e.0.day day

-- the instrument and the gas of a calibration
abbrev pub calibration_in : FactBody → Option (ℕ × ℕ)
calibration_in (Calibration of gas) = Some (of, gas)
calibration_in _ = None

-- the smaller of a gas and another, if there is one
abbrev pub smaller : Option ℕ → ℕ → ℕ
smaller None gas = gas
smaller (Some other) gas = min other gas

-- the gas is the least one of the calibrations of the instrument and day of the calibration at this place, up to that calibration
abbrev pub IsLeastAt : List Entry → ℕ → ℕ → Type 0
IsLeastAt facts at gas =
    (instrument most : ℕ) (d : Entry)
    → is_calibration instrument (get_or facts at d).1.body ≡ true
    → nat_le gas most ≡ list_any (calibrates_within_on instrument most (get_or facts at d).0.day) (take (at + 1) facts)

-- the list has the least gas for each of the first facts
pub record AreLeast (facts : List Entry) (least : List ℕ) : Type 0 where
  pub within : length least ≤ length facts
  pub each : (at d : ℕ) → at < length least → IsLeastAt facts at (get_or least at d)
