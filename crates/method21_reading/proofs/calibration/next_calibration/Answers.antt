use Rattle.std.proofs.Common.{◌||◌, ◌+◌, ◌∷◌, drop, sym, ap, ◌∙◌}
use Rattle.std.proofs.lemmas.List.{drop_more}
use Rattle.ldar_law.specs.Fitness as law
use Rattle.method21_reading.specs.Readings as readings
use Rattle.method21_reading.proofs.NextCalibration.{nearer_step}
use Rattle.method21_reading.proofs.calibration.next_calibration.Goals as goal

pub loop-e-preserved : goal.loop-e-preserved
loop-e-preserved c = λ later.
    let key = c.args.key.now in
    let facts = c.args.facts.now in
    let e = c.e-item.result in
    let rest = drop (c.loop-e.e-index + 1) facts in
    let here = drop_more facts c.loop-e.e-index e c.loop-e-test.true ∙ ap (λ x. x ∷ rest) (sym c.e-item.is) in
    c.loop-e.invariant later
    ∙ ap (λ es. readings.is_before c.loop-e.next later || law.is_calibrated_before es key c.args.instrument later) here
    ∙ nearer_step key c.args.instrument c.loop-e.next e rest later
    ∙ ap (λ next. readings.is_before next later || law.is_calibrated_before rest key c.args.instrument later) (sym c.nearer-next.ensures.value)
