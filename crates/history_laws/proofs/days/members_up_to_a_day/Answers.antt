use Rattle.history_laws.proofs.RegisterUpTo.{members_up_to_a_day, components_are_of_all_members}
use Rattle.history_laws.proofs.days.members_up_to_a_day.Goals as goal

pub returns : goal.returns
returns c = record { members = members_up_to_a_day; components = components_are_of_all_members }
