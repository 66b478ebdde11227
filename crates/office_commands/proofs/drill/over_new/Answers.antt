use Rattle.std.proofs.Common.{inr}
use Rattle.office_commands.proofs.ConnectionLemmas.{run_keeps_disk}
use Rattle.office_commands.proofs.DrillLemmas.{run_over}
use Rattle.office_commands.proofs.TaskLemmas.{keeps_along}
use Rattle.office_commands.proofs.drill.over_new.Goals as goal

-- the journal was opened, and the drill was run
pub returns-in-Ok-clause-ends : goal.returns-in-Ok-clause-ends
returns-in-Ok-clause-ends g c =
    let d = g.D.Disk in
    let status = c.drill_in-status in
    let ends = status.ensures.ends in
    inr (run_over d.content d.images d.left d.clock d.name d.faults c.args.seed c.args.size status.result c.args.disk c.into_disk.result c.in-Ok.book
    status.new.book ends.0 (g.K.Sink.pieces c.args.output.now) (g.K.Sink.pieces status.new.output) c.in-Ok.ensures.opens c.in-Ok.ensures.settled
    c.in-Ok.ensures.keeps ends.1 ends.2 c.into_disk.ensures.value c.into_disk.ensures.stands)

pub returns-in-Ok-clause-keeps : goal.returns-in-Ok-clause-keeps
returns-in-Ok-clause-keeps g c =
    let d = g.D.Disk in
    let status = c.drill_in-status in
    let ends = status.ensures.ends in
    keeps_along d.content d.images d.left d.clock d.name d.faults g.met.D.Disk.only_now g.met.D.Disk.since_earlier c.args.disk c.into_disk.result
    c.in-Ok.book status.new.book c.in-Ok.ensures.keeps
    (run_keeps_disk d.content d.images d.left d.clock d.name d.faults g.met.D.Disk.only_now g.met.D.Disk.since_earlier c.in-Ok.book
    status.new.book ends.0 ends.1) c.into_disk.ensures.value
