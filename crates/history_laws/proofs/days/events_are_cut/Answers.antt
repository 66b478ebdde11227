use Rattle.history_laws.proofs.EventsUpTo.{events_are_cut}
use Rattle.history_laws.proofs.days.events_are_cut.Goals as goal

pub returns : goal.returns
returns c = record { law = events_are_cut }
