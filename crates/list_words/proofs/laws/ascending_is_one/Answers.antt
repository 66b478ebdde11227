use Rattle.list_words.proofs.OrderLaws.{ascending_is_one}
use Rattle.list_words.proofs.laws.ascending_is_one.Goals as goal

pub returns : goal.returns
returns g c = record { law = ascending_is_one _ }
