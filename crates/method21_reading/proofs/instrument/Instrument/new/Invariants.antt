use Rattle.std.proofs.Common.{◌≡◌, filter, take}
use Rattle.method21_reading.specs.Instruments.{is_calibrating, is_passed_test, is_failed_drift}
use Rattle.method21_reading.proofs.instrument.Instrument.new.Given as goal

abbrev pub invariant-loop-e : goal.invariant-loop-e
invariant-loop-e l = record {
  calibrations : l.calibrations.items ≡ filter (λ e. is_calibrating e.1.body) (take l.e-index l.facts);
  tests : l.tests.items ≡ filter (λ e. is_passed_test e.1.body) (take l.e-index l.facts);
  drifts : l.drifts.items ≡ filter (λ e. is_failed_drift e.1.body) (take l.e-index l.facts);
}
