use Rattle.history_laws.proofs.OnceLemmas.{passing_batch_enters_first}
use Rattle.history_laws.proofs.ruly.entered_first.Goals as goal

pub returns : goal.returns
returns c = record { law = passing_batch_enters_first }
