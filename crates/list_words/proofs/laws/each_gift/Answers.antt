use Rattle.list_words.proofs.WordLaws.{each_where_holds}
use Rattle.list_words.proofs.laws.each_gift.Goals as goal

pub returns : goal.returns
returns g c = record { law = each_where_holds _ _ }
