use Rattle.history_laws.proofs.EventsUpTo.{fitness_forgets_later_days}
use Rattle.history_laws.proofs.days.fitness_forgets_later_days.Goals as goal

pub returns : goal.returns
returns c = record { law = fitness_forgets_later_days }
