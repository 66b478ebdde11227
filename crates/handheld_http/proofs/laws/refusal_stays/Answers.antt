use Rattle.handheld_http.proofs.ItemLaws.{refusal_stays_with}
use Rattle.handheld_http.proofs.laws.refusal_stays.Goals as goal

pub returns : goal.returns
returns c = record { law = refusal_stays_with }
