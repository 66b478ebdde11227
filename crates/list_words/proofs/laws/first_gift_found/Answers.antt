use Rattle.list_words.proofs.WordLaws.{first_given_finds}
use Rattle.list_words.proofs.laws.first_gift_found.Goals as goal

pub returns : goal.returns
returns g c = record { law = first_given_finds _ _ }
