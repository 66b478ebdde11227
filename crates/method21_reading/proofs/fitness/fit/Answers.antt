use Rattle.std.proofs.Common.{rules, ◌≡◌}
use Rattle.method21_reading.specs.Readings.{fitness_by}
use Rattle.method21_reading.proofs.FitnessLemmas.{fitness_among_all}
use Rattle.method21_reading.proofs.fitness.fit.Goals as goal

pub returns-in-Reading-clause-of_all : goal.returns-in-Reading-clause-of_all
returns-in-Reading-clause-of_all c =
    let a = c.args in
    let given : c.judged.result ≡ fitness_by a.limit a.instrument.now a.key.now a.reading.now.body = search rules in
    fitness_among_all a.limit a.instrument.now a.key.now a.reading.now.body c.judged.result given
