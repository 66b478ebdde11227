use Rattle.list_words.proofs.OrderLaws.{put_each_in_order}
use Rattle.list_words.proofs.laws.put_each_in_order.Goals as goal

pub returns : goal.returns
returns g c = record { law = put_each_in_order _ }
