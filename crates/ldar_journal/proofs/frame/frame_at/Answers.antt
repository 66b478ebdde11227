use Rattle.std.proofs.Common.{sym}
use Rattle.ldar_journal.specs.Image.{payload}
use Rattle.ldar_journal.proofs.FrameLemmas.{payload_of_frame, one_payload_at, frame_stands}
use Rattle.ldar_journal.proofs.frame.frame_at.Goals as goal

pub returns-in_default : goal.returns-in_default
returns-in_default c = λ batches rest is stands. c.in_default.ensures (payload batches) (payload_of_frame c.args.bytes.now rest batches is stands)

pub returns-then-branch : goal.returns-then-branch
returns-then-branch c =
    let found = rw c.if-branch.true at c.in_ok-read_batches.ensures in
    frame_stands c.args.bytes.now c.in-Some.payload.now c.read_batches.new.batches.items c.in-Some.ensures found.0 found.1

pub returns : goal.returns
returns c = λ batches rest is stands.
    (rw c.if-branch.false at c.in_ok-read_batches.ensures) batches is
    (sym (one_payload_at c.args.bytes.now c.in-Some.payload.now (payload batches) c.in-Some.ensures (payload_of_frame c.args.bytes.now rest batches is stands)))
