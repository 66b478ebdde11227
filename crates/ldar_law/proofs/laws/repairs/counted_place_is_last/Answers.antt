use Rattle.ldar_law.proofs.DelayLemmas.{counted_place_is_last}
use Rattle.ldar_law.proofs.laws.repairs.counted_place_is_last.Goals as goal

pub returns : goal.returns
returns c = record { law = counted_place_is_last }
