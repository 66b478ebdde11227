use Rattle.list_words.proofs.RangeLemmas.{until_holds}
use Rattle.list_words.proofs.laws.until_holds.Goals as goal

pub returns : goal.returns
returns c = record { law = until_holds }
