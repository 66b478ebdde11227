use Rattle.handheld_http.proofs.ItemLaws.{whole_is_item_with}
use Rattle.handheld_http.proofs.laws.whole_is_item.Goals as goal

pub returns : goal.returns
returns c = record { law = whole_is_item_with }
