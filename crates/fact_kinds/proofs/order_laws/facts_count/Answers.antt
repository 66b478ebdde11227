use Rattle.fact_kinds.proofs.OrderFree.{facts_count}
use Rattle.fact_kinds.proofs.order_laws.facts_count.Goals as goal

pub returns : goal.returns
returns c = record { law = facts_count }
