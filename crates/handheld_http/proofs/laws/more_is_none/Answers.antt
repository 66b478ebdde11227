use Rattle.handheld_http.proofs.ItemLaws.{more_is_none_with}
use Rattle.handheld_http.proofs.laws.more_is_none.Goals as goal

pub returns : goal.returns
returns c = record { law = more_is_none_with }
