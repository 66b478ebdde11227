use Rattle.ldar_law.proofs.RegisterLemmas.{one_more_fact_in_force}
use Rattle.ldar_law.proofs.laws.register.one_more_fact_in_force.Goals as goal

pub returns : goal.returns
returns c = record { law = one_more_fact_in_force }
