use Rattle.std.proofs.Common.{◌≡◌, ◌||◌, drop}
use Rattle.fact_kinds.specs.declared.key.Key.{Key}
use Rattle.ldar_law.specs.Fitness as law
use Rattle.method21_reading.specs.Readings as readings
use Rattle.method21_reading.proofs.calibration.next_calibration.Given as goal

abbrev pub invariant-loop-e : goal.invariant-loop-e
invariant-loop-e l =
    (later : Key)
    → law.is_calibrated_before l.facts l.key l.instrument later
    ≡ (readings.is_before l.next later || law.is_calibrated_before (drop l.e-index l.facts) l.key l.instrument later)
