use Rattle.ldar_law.proofs.DelayLemmas.{one_more_delay}
use Rattle.ldar_law.proofs.laws.repairs.one_more_delay.Goals as goal

pub returns : goal.returns
returns c = record { law = one_more_delay }
