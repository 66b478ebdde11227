use Rattle.list_words.proofs.WordLaws.{last_such_is_last}
use Rattle.list_words.proofs.laws.last_element.Goals as goal

pub returns : goal.returns
returns g c = record { law = last_such_is_last _ }
