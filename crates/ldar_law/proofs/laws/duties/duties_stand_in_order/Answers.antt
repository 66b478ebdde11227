use Rattle.ldar_law.proofs.DutyLemmas.{duties_stand_in_order}
use Rattle.ldar_law.proofs.laws.duties.duties_stand_in_order.Goals as goal

pub returns : goal.returns
returns c = record { law = duties_stand_in_order }
