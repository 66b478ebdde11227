use Rattle.list_words.proofs.PartLemmas.{cut_has_parts}
use Rattle.list_words.proofs.laws.cut_has_parts.Goals as goal

pub returns : goal.returns
returns g c = record { law = cut_has_parts _ }
