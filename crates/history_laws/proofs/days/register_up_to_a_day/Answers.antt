use Rattle.history_laws.proofs.RegisterUpTo.{components_up_to_a_day, units_up_to_a_day}
use Rattle.history_laws.proofs.days.register_up_to_a_day.Goals as goal

pub returns : goal.returns
returns c = record { components = components_up_to_a_day; units = units_up_to_a_day }
