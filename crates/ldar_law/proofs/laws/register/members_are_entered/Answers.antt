use Rattle.ldar_law.proofs.EnteredLemmas.{members_are_entered}
use Rattle.ldar_law.proofs.laws.register.members_are_entered.Goals as goal

pub returns : goal.returns
returns c = record { law = members_are_entered }
