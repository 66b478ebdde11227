use Rattle.history_laws.proofs.TouchLemmas.{unnamed_unit_stays}
use Rattle.history_laws.proofs.touches.unnamed_units.Goals as goal

pub returns : goal.returns
returns c = record { law = unnamed_unit_stays }
