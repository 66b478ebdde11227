use Rattle.ldar_journal.proofs.Histories.{one_history}
use Rattle.ldar_journal.proofs.laws.one_history.Goals as goal

pub returns : goal.returns
returns c = record { law = one_history }
