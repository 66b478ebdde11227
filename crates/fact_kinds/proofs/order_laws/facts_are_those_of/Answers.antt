use Rattle.fact_kinds.proofs.OrderFree.{facts_are_those_of}
use Rattle.fact_kinds.proofs.order_laws.facts_are_those_of.Goals as goal

pub returns : goal.returns
returns c = record { law = facts_are_those_of }
