use Rattle.ldar_law.proofs.EventLemmas.{events_are_judged_in_order}
use Rattle.ldar_law.proofs.laws.readings.events_are_judged_in_order.Goals as goal

pub returns : goal.returns
returns c = record { law = events_are_judged_in_order }
