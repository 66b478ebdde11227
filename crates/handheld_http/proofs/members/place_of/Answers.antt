use Rattle.handheld_http.proofs.MemberLemmas.{position-map}
use Rattle.handheld_http.proofs.members.place_of.Goals as goal

pub returns-clause-value : goal.returns-clause-value
returns-clause-value c = rw position-map c.place_here.ensures.value
