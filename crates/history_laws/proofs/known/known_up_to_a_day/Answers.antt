use Rattle.history_laws.proofs.EventsUpTo.{known_up_to_a_day}
use Rattle.history_laws.proofs.known.known_up_to_a_day.Goals as goal

pub returns : goal.returns
returns c = record { law = known_up_to_a_day }
