use Rattle.list_words.proofs.WordLaws.{first_where_finds}
use Rattle.list_words.proofs.laws.first_element_found.Goals as goal

pub returns : goal.returns
returns g c = record { law = first_where_finds _ }
