use Rattle.handheld_http.proofs.FieldLemmas.{list_any-map}
use Rattle.handheld_http.proofs.fields.any_closes.Goals as goal

pub returns : goal.returns
returns c = rw list_any-map c.any_closes_here.ensures
