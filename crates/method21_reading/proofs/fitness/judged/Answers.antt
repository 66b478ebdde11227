use Rattle.std.proofs.Common.{◌∙◌}
use Rattle.method21_reading.proofs.ApartLemmas.{day_judges}
use Rattle.method21_reading.proofs.fitness.judged.Goals as goal

pub returns : goal.returns
returns c =
    let a = c.args in
    record {
      value = c.judged_apart.ensures.value
          ∙ day_judges a.facts.now a.key.now c.facts_on-today.result.now a.limit a.instrument a.ppm c.facts_on-today.ensures.value;
    }
