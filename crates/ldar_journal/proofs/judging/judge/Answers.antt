use Rattle.std.proofs.Common.{List, length, ◌<◌, ◌≤◌, refl, ap, Ok, arith}
use Rattle.ldar_journal.proofs.JudgingLemmas.{nothing_left, frame_ahead, bad_ahead}
use Rattle.ldar_journal.proofs.judging.judge.Goals as goal

pub returns-then-not-branch-clause-judged : goal.returns-then-not-branch-clause-judged
returns-then-not-branch-clause-judged g c =
    let one = c.in_ok-fill.ensures in
    nothing_left (g.D.Disk.content c.args.disk.now) (g.D.Disk.content c.fill.new.disk) c.args.place c.args.window.now.bytes c.fill.new.window.bytes
    (one.all (ap Ok c.if-not-branch.true)) (one.short (ap Ok c.if-not-branch.true))

pub returns-in-Some-clause-judged : goal.returns-in-Some-clause-judged
returns-in-Some-clause-judged g c =
    let one = c.in_ok-fill.ensures in
    let found = rw (c.in-Some.is, c.bytes-2.ensures.value) at c.in_ok-used.ensures in
    frame_ahead (g.D.Disk.content c.args.disk.now) (g.D.Disk.content c.fill.new.disk) (g.D.Disk.content c.fetch_frame.new.disk) c.args.place
    c.args.window.now.bytes c.fill.new.window.bytes c.fetch_frame.new.window.bytes
    c.frame_at.new.batches.items c.in-Some.used one.reads.content one.ahead c.in_ok-fetch_frame.ensures.ahead found

pub returns-in-None-clause-judged : goal.returns-in-None-clause-judged
returns-in-None-clause-judged g c =
    let one = c.in_ok-fill.ensures in
    let none = rw (c.in-None.is, c.bytes-2.ensures.value) at c.in_ok-used.ensures in
    let some : 0 < length c.fill.new.window.bytes = let long = one.enough (ap Ok c.if-not-branch.false) in omega arith in
    let open_gate = rw c.bytes.ensures.value at (c.if-not-begins_open.ensures.value) in
    bad_ahead (g.D.Disk.content c.args.disk.now) (g.D.Disk.content c.fill.new.disk) (g.D.Disk.content c.fetch_frame.new.disk) c.args.place
    c.args.window.now.bytes c.fill.new.window.bytes c.fetch_frame.new.window.bytes
    one.reads.content one.ahead c.in_ok-fetch_frame.ensures.enough some open_gate none
