use Rattle.handheld_http.proofs.MeaningLaws.{items_mean_with}
use Rattle.handheld_http.proofs.laws.items_mean.Goals as goal

pub returns : goal.returns
returns c = record { law = items_mean_with }
