use Rattle.list_words.proofs.PartLemmas.{cut_joins}
use Rattle.list_words.proofs.laws.cut_joins.Goals as goal

pub returns : goal.returns
returns g c = record { law = cut_joins _ }
