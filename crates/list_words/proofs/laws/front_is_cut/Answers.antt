use Rattle.list_words.proofs.OrderLaws.{front_is_cut}
use Rattle.list_words.proofs.laws.front_is_cut.Goals as goal

pub returns : goal.returns
returns g c = record { law = front_is_cut _ }
