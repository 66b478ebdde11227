use Rattle.method21_reading.proofs.FitnessLemmas.{fitness_among_all}
use Rattle.method21_reading.proofs.instrument.Instrument.fit.Goals as goal

pub returns-clause-of_all : goal.returns-clause-of_all
returns-clause-of_all c =
    let a = c.args in
    λ facts those. fitness_among_all a.limit facts a.key.now a.reading.now.body c.told.result (c.told.ensures.value facts those)
