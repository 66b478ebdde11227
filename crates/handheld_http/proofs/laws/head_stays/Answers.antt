use Rattle.handheld_http.proofs.ItemLaws.{head_stays_with}
use Rattle.handheld_http.proofs.laws.head_stays.Goals as goal

pub returns : goal.returns
returns c = record { law = head_stays_with }
