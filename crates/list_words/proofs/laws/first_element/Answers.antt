use Rattle.list_words.proofs.WordLaws.{first_where_is_first}
use Rattle.list_words.proofs.laws.first_element.Goals as goal

pub returns : goal.returns
returns g c = record { law = first_where_is_first _ }
