use Rattle.ldar_law.proofs.VerdictLemmas.{first_fact_is_told}
use Rattle.ldar_law.proofs.laws.denials.first_fact.Goals as goal

pub returns : goal.returns
returns c = record { law = first_fact_is_told }
