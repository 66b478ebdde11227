use Rattle.list_words.proofs.OrderLaws.{in_order_permutes}
use Rattle.list_words.proofs.laws.in_order_permutes.Goals as goal

pub returns : goal.returns
returns g c = record { law = in_order_permutes _ }
