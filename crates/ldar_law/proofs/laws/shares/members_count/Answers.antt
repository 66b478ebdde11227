use Rattle.ldar_law.proofs.ShareLemmas.{members_count}
use Rattle.ldar_law.proofs.laws.shares.members_count.Goals as goal

pub returns : goal.returns
returns c = record { law = members_count }
