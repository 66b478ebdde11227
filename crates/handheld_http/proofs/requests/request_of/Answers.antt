use Rattle.std.proofs.Common.{take}
use Rattle.std.proofs.lemmas.Result.{IfOk-weaker}
use Rattle.handheld_http.proofs.RequestLemmas.{accepted_extent, cut_extent, extent_asks, judged}
use Rattle.handheld_http.proofs.requests.request_of.Goals as goal

-- the head was cut, so it is not refused
pub unreachable-requires : goal.unreachable-requires
unreachable-requires c =
    let cut = c.requires.was_cut in
    judged (take c.args.head c.args.bytes.now) c.in_default.field-0 cut.0 cut.2.0.0 cut.2.0.1.reads cut.2.0.1.length
    (rw c.in_default.is at c.judge.ensures)

-- the body is complete
pub asked_by-requires-clause-whole : goal.asked_by-requires-clause-whole
asked_by-requires-clause-whole c =
    let cut = c.requires.was_cut in
    let accepted = c.in-Ok.ensures in
    let at = accepted_extent c.args.bytes.now c.args.head c.in-Ok.extent accepted.0 cut.2.0.1.ends accepted.1 in
    (cut_extent c.args.bytes.now c.args.head c.in-Ok.extent at.0 at.1 cut.0 cut.1 cut.2).1

-- the result is what the request asks for
pub returns : goal.returns
returns c =
    let accepted = c.in-Ok.ensures in
    let at = accepted_extent c.args.bytes.now c.args.head c.in-Ok.extent accepted.0 c.requires.was_cut.2.0.1.ends accepted.1 in
    record { value = IfOk-weaker c.asked_by.result _ _ (extent_asks c.args.bytes.now c.args.head c.in-Ok.extent at.0 at.1) c.asked_by.ensures.value }
