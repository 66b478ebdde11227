use Rattle.list_words.proofs.WordLaws.{first_given_is_first}
use Rattle.list_words.proofs.laws.first_gift.Goals as goal

pub returns : goal.returns
returns g c = record { law = first_given_is_first _ _ }
