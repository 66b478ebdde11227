use Rattle.ldar_law.proofs.ShareLemmas.{other_facts_count_nothing}
use Rattle.ldar_law.proofs.laws.shares.other_facts.Goals as goal

pub returns : goal.returns
returns c = record { law = other_facts_count_nothing }
