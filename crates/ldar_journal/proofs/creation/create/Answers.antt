use Rattle.std.proofs.Common.{[], ◌∷◌, ◌++◌, arith}
use Rattle.ldar_journal.specs.Crash.{LeavesOnly}
use Rattle.ldar_journal.proofs.CreationLemmas.{laid_down, laid_opens, nothing_stood}
use Rattle.ldar_journal.proofs.creation.create.Goals as goal

pub returns-clause-value : goal.returns-clause-value
returns-clause-value g c =
    laid_down (g.D.Disk.content c.args.disk.now) (g.D.Disk.content c.read_at.new.self) (g.D.Disk.content c.lay_down.new.disk) _ c.read_at.new.into
    c.in_ok-read_at.field-0
    c.if-branch-gt0.false (omega arith) c.in_ok-read_at.ensures.read c.in_ok-lay_down.ensures.written

pub returns-clause-images : goal.returns-clause-images
returns-clause-images g c =
    laid_opens (g.D.Disk.content c.args.disk.now) (g.D.Disk.content c.lay_down.new.disk) (g.D.Disk.images c.lay_down.new.disk) (returns-clause-value g c)
    c.in_ok-lay_down.ensures.durable

pub returns-clause-others : goal.returns-clause-others
returns-clause-others g c =
    nothing_stood (LeavesOnly g.D.Disk.clock g.D.Disk.left c.args.disk.now c.lay_down.new.disk (g.D.Disk.images c.args.disk.now))
    (g.D.Disk.content c.args.disk.now) (g.D.Disk.content c.lay_down.new.disk) (returns-clause-value g c)
