use Rattle.std.proofs.Common.{List, length, ◌≤◌, refl, ap, Ok, arith}
use Rattle.ldar_journal.specs.Window.{WindowState}
use Rattle.ldar_journal.proofs.JudgingLemmas.{fetched}
use Rattle.ldar_journal.proofs.judging.fetch_frame.Goals as goal

pub returns-clause-enough : goal.returns-clause-enough
returns-clause-enough g c =
    let one = c.in_ok-fill.ensures in
    let two = c.in_ok-fill-2.ensures in
    fetched (g.D.Disk.content c.args.disk.now) (g.D.Disk.content c.fill.new.disk) (g.D.Disk.content c.fill-2.new.disk) c.args.place c.bytes_wanted-wanted.result
    c.args.window.now.bytes c.fill.new.window.bytes c.fill-2.new.window.bytes two.more.0 c.in_ok-fill-2.field-0 one.reads.content one.ahead two.ahead
    (one.enough (ap Ok c.if-not-branch.false)) (ap (λ (w : WindowState). w.bytes) two.more.1) (rw c.bytes.ensures.value at c.bytes_wanted-wanted.ensures.enough)
    (λ full. two.enough (ap Ok full)) (λ short. two.all (ap Ok short))
