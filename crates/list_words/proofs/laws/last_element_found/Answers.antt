use Rattle.list_words.proofs.WordLaws.{last_such_finds}
use Rattle.list_words.proofs.laws.last_element_found.Goals as goal

pub returns : goal.returns
returns g c = record { law = last_such_finds _ }
