use Rattle.fact_kinds.proofs.Cuts.{cut_of_facts}
use Rattle.fact_kinds.proofs.order_laws.cut_of_facts.Goals as goal

pub returns : goal.returns
returns c = record { law = cut_of_facts }
