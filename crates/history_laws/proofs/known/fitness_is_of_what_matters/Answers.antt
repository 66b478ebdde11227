use Rattle.history_laws.proofs.MatterLemmas.{fitness_is_of_what_matters, same_tests_matter}
use Rattle.history_laws.proofs.known.fitness_is_of_what_matters.Goals as goal

pub returns : goal.returns
returns c = record { law = fitness_is_of_what_matters; same_tests = same_tests_matter }
