use Rattle.std.proofs.lemmas.List.Folds.{list_all-map}
use Rattle.register_import.proofs.MemberLemmas.{keys_of-members_view, list_any-map}
use Rattle.register_import.proofs.members.has_only.Goals as goal

pub returns : goal.returns
returns c = rw (keys_of-members_view, list_all-map) (simp list_any-map c.are_among.ensures)
