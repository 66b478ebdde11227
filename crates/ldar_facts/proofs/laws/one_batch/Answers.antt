use Rattle.ldar_facts.proofs.GrammarLaws.{one_batch}
use Rattle.ldar_facts.proofs.laws.one_batch.Goals as goal

pub returns : goal.returns
returns c = record { law = one_batch }
