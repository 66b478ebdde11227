use Rattle.fact_kinds.proofs.OrderFree.{one_more_batch}
use Rattle.fact_kinds.proofs.order_laws.one_more_batch.Goals as goal

pub returns : goal.returns
returns c = record { law = one_more_batch }
