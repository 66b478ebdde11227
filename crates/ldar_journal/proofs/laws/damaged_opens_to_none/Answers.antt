use Rattle.ldar_journal.proofs.Histories.{damaged_opens_to_none}
use Rattle.ldar_journal.proofs.laws.damaged_opens_to_none.Goals as goal

pub returns : goal.returns
returns c = record { law = damaged_opens_to_none }
