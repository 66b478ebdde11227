use Rattle.ldar_law.proofs.ViewLemmas.{views_forget_order}
use Rattle.ldar_law.proofs.laws.views.views_forget_order.Goals as goal

pub returns : goal.returns
returns c = record { law = views_forget_order }
