use Rattle.handheld_http.proofs.ItemLaws.{items_in_range}
use Rattle.handheld_http.proofs.laws.items_are_in_range.Goals as goal

pub returns : goal.returns
returns c = record { law = items_in_range }
