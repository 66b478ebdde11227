use Rattle.history_laws.proofs.EventsUpTo.{events_up_to_a_day, events_by_own_register, limits_agree}
use Rattle.history_laws.proofs.days.events_up_to_a_day.Goals as goal

pub returns : goal.returns
returns c = record { register = events_up_to_a_day; own = events_by_own_register; limits = limits_agree }
