use Rattle.list_words.proofs.RangeLemmas.{until_counts}
use Rattle.list_words.proofs.laws.until_counts.Goals as goal

pub returns : goal.returns
returns c = record { law = until_counts }
