use Rattle.history_laws.proofs.MemberLemmas.{members_stand_in_unit, components_are_members}
use Rattle.history_laws.proofs.ruly.members_stand_in_unit.Goals as goal

pub returns : goal.returns
returns c = record { members = members_stand_in_unit; components = components_are_members }
