use Rattle.list_words.proofs.OrderLaws.{cut_is_by_order}
use Rattle.list_words.proofs.laws.cut_is_by_order.Goals as goal

pub returns : goal.returns
returns g c = record { law = cut_is_by_order _ }
