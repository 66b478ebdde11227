use Rattle.handheld_http.proofs.ItemLaws.{one_cut_with}
use Rattle.handheld_http.proofs.laws.one_cut.Goals as goal

pub returns : goal.returns
returns c = record { law = one_cut_with }
