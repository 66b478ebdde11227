use Rattle.ldar_journal.proofs.Histories.{frame_stands_in}
use Rattle.ldar_journal.proofs.laws.frame_behind_those_before.Goals as goal

pub returns : goal.returns
returns c = record { law = frame_stands_in }
