use Rattle.history_laws.proofs.TouchLemmas.{touched_stays}
use Rattle.history_laws.proofs.touches.touched_components.Goals as goal

pub returns : goal.returns
returns c = record { law = touched_stays }
