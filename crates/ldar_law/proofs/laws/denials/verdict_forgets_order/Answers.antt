use Rattle.ldar_law.proofs.VerdictLemmas.{verdict_forgets_order}
use Rattle.ldar_law.proofs.laws.denials.verdict_forgets_order.Goals as goal

pub returns : goal.returns
returns c = record { law = verdict_forgets_order }
