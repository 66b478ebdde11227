use Rattle.ldar_law.proofs.ShareLemmas.{one_more_fact_counts}
use Rattle.ldar_law.proofs.laws.shares.one_more_fact.Goals as goal

pub returns : goal.returns
returns c = record { law = one_more_fact_counts }
