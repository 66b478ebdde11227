use Rattle.ldar_journal.proofs.Histories.{one_row}
use Rattle.ldar_journal.proofs.laws.one_row_of_frames.Goals as goal

pub returns : goal.returns
returns c = record { law = one_row }
