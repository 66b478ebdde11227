use Rattle.handheld_http.proofs.Places.{ends_in_front, none_in_front}
use Rattle.handheld_http.proofs.cutting.end_of_head.Goals as goal

pub returns-clause-found : goal.returns-clause-found
returns-clause-found c = ends_in_front c.args.bytes.now c.front.result.now c.in-Some.at c.front.ensures c.in-Some.ensures

pub returns-in_default-clause-none : goal.returns-in_default-clause-none
returns-in_default-clause-none c = none_in_front c.args.bytes.now c.front.result.now c.front.ensures c.in_default.ensures
