use Rattle.handheld_http.proofs.ItemLaws.{refused_is_none_with}
use Rattle.handheld_http.proofs.laws.refused_is_none.Goals as goal

pub returns : goal.returns
returns c = record { law = refused_is_none_with }
