use Rattle.fact_kinds.proofs.Cuts.{view_day_cuts}
use Rattle.fact_kinds.proofs.order_laws.view_day_cuts.Goals as goal

pub returns : goal.returns
returns c = record { law = view_day_cuts }
