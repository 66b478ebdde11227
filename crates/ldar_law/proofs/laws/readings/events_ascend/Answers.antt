use Rattle.ldar_law.proofs.EventLemmas.{events_ascend}
use Rattle.ldar_law.proofs.laws.readings.events_ascend.Goals as goal

pub returns : goal.returns
returns c = record { law = events_ascend }
