use Rattle.dual_seals.proofs.OrderLemmas.{seals_forget}
use Rattle.dual_seals.proofs.laws.seals_forget_order.Goals as goal

pub returns : goal.returns
returns c = record { law = seals_forget }
