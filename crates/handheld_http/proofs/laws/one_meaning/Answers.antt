use Rattle.handheld_http.proofs.MeaningLaws.{one_meaning_with}
use Rattle.handheld_http.proofs.laws.one_meaning.Goals as goal

pub returns : goal.returns
returns c = record { law = one_meaning_with }
