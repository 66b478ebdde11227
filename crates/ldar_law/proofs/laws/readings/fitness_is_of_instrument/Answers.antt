use Rattle.ldar_law.proofs.FitnessLemmas.{fitness_is_of_instrument}
use Rattle.ldar_law.proofs.laws.readings.fitness_is_of_instrument.Goals as goal

pub returns : goal.returns
returns c = record { law = fitness_is_of_instrument }
