use Rattle.ldar_law.proofs.TagLemmas.{delays_lie_between}
use Rattle.ldar_law.proofs.laws.repairs.delays_lie_between.Goals as goal

pub returns : goal.returns
returns c = record { law = delays_lie_between }
