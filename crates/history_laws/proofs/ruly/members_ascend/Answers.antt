use Rattle.history_laws.proofs.MemberLemmas.{members_ascend, members_are_few}
use Rattle.history_laws.proofs.ruly.members_ascend.Goals as goal

pub returns : goal.returns
returns c = record { law = members_ascend; few = members_are_few }
