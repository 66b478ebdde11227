use Rattle.handheld_http.proofs.ItemLaws.{head_tells_cut_with}
use Rattle.handheld_http.proofs.laws.head_tells_cut.Goals as goal

pub returns : goal.returns
returns c = record { law = head_tells_cut_with }
