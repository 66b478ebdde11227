use Rattle.std.proofs.lemmas.List.Folds.{list_all-map}
use Rattle.handheld_http.proofs.FieldLemmas.{list_any-map}
use Rattle.handheld_http.proofs.MemberLemmas.{keys_of-members_view}
use Rattle.handheld_http.proofs.members.are_known.Goals as goal

pub returns : goal.returns
returns c = rw (keys_of-members_view, list_all-map) (simp list_any-map c.are_among.ensures)
