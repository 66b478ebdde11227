use Rattle.handheld_http.proofs.ItemLaws.{no_proper_front_with}
use Rattle.handheld_http.proofs.laws.no_proper_front.Goals as goal

pub returns : goal.returns
returns c = record { law = no_proper_front_with }
