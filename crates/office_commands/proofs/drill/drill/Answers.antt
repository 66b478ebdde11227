use Rattle.office_commands.specs.Scene.{seen}
use Rattle.office_commands.proofs.DrillLemmas.{ends_over_new}
use Rattle.office_commands.proofs.drill.drill.Goals as goal

-- the journal was made
pub returns-in-Done-clause-ends : goal.returns-in-Done-clause-ends
returns-in-Done-clause-ends g c =
    let d = g.D.Disk in
    ends_over_new c.args.seed c.args.size c.over_new.result.0 (g.K.Sink.pieces c.args.output.now) (g.K.Sink.pieces c.over_new.new.output)
    (seen d.content d.images d.left d.clock d.faults c.args.disk) (seen d.content d.images d.left d.clock d.faults c.init.new.disk)
    (seen d.content d.images d.left d.clock d.faults c.over_new.result.1) c.in-Done.ensures.made.ends c.init.ensures.keeps.time
    c.init.ensures.keeps.count c.over_new.ensures.ends
