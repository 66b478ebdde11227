use Rattle.std.proofs.Common.{find, sym, ap, ◌∙◌}
use Rattle.std.specs.Prelude.{unwrap_or}
use Rattle.ldar_law.specs.Fitness.{is_voided_by, unless_voided}
use Rattle.method21_reading.proofs.ApartLemmas.{sorts_judge}
use Rattle.method21_reading.proofs.instrument.Instrument.judged.Goals as goal

pub returns-in-Some : goal.returns-in-Some
returns-in-Some c =
    let a = c.args in
    let apart = a.self.now in
    let left = unless_voided (find (is_voided_by apart.calibrations a.key.now a.instrument a.limit a.ppm) apart.drifts) in
    record {
      value = λ facts those.
          ap (λ o. unwrap_or o left) (sym c.in-Some.is ∙ c.refusal.ensures.value) ∙ sorts_judge facts a.key.now apart a.limit a.instrument a.ppm those;
    }

pub returns-in-None : goal.returns-in-None
returns-in-None c =
    let a = c.args in
    let apart = a.self.now in
    let left = unless_voided (find (is_voided_by apart.calibrations a.key.now a.instrument a.limit a.ppm) apart.drifts) in
    record {
      value = λ facts those.
          c.unless_voided.ensures.value ∙ ap (λ o. unwrap_or o left) (sym c.in-None.is ∙ c.refusal.ensures.value)
          ∙ sorts_judge facts a.key.now apart a.limit a.instrument a.ppm those;
    }
