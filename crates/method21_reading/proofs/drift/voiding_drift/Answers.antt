use Rattle.std.proofs.Common.{option_map, ap, ◌∙◌}
use Rattle.method21_reading.proofs.NextCalibration.{voided_same}
use Rattle.method21_reading.proofs.drift.voiding_drift.Goals as goal

pub returns : goal.returns
returns c =
    let a = c.args in
    let next = c.next_calibration-next in
    record {
      value = c.first_voiding.ensures.value
          ∙ ap (option_map (λ e. e.0))
          (voided_same a.calibrations.now a.drifts.now next.result a.key.now a.instrument a.limit a.ppm next.ensures.value);
    }
