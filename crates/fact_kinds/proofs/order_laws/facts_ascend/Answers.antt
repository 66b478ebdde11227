use Rattle.fact_kinds.proofs.OrderFree.{facts_ascend}
use Rattle.fact_kinds.proofs.order_laws.facts_ascend.Goals as goal

pub returns : goal.returns
returns c = record { law = facts_ascend }
