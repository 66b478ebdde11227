use Rattle.handheld_http.proofs.RequestLemmas.{accepted_extent}
use Rattle.handheld_http.proofs.cutting.head_of.Goals as goal

-- the head is accepted
pub returns-in-Ok : goal.returns-in-Ok
returns-in-Ok c =
    let accepted = c.in-Ok.ensures in
    record { value = (accepted_extent c.args.bytes.now c.in-Some.head c.in-Ok.extent accepted.0 c.in-Some.ensures.found accepted.1).1 }
