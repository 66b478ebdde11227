use Rattle.fact_kinds.proofs.OrderFree.{order_free}
use Rattle.fact_kinds.proofs.order_laws.order_free.Goals as goal

pub returns : goal.returns
returns c = record { law = order_free }
