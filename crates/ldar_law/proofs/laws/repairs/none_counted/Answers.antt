use Rattle.ldar_law.proofs.DelayLemmas.{none_counted}
use Rattle.ldar_law.proofs.laws.repairs.none_counted.Goals as goal

pub returns : goal.returns
returns c = record { law = none_counted }
