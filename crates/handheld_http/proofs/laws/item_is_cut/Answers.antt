use Rattle.handheld_http.proofs.ItemLaws.{item_is_cut_with}
use Rattle.handheld_http.proofs.laws.item_is_cut.Goals as goal

pub returns : goal.returns
returns c = record { law = item_is_cut_with }
