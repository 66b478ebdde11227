use Rattle.ldar_law.proofs.ViewLemmas.{views_forget_later_days}
use Rattle.ldar_law.proofs.laws.views.views_forget_later_days.Goals as goal

pub returns : goal.returns
returns c = record { law = views_forget_later_days }
