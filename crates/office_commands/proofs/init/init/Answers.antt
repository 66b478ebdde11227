use Rattle.std.proofs.Common.{Err, ap}
use Rattle.office_commands.specs.declared.status.Status.TheVariants.{Done, NotEmpty, DiskFault}
use Rattle.office_commands.proofs.EndLemmas.{images_none, is_made, laid_down}
use Rattle.office_commands.proofs.init.init.Goals as goal

-- made
pub returns-in-Ok-clause-made : goal.returns-in-Ok-clause-made
returns-in-Ok-clause-made g c =
    let d = g.D.Disk in
    is_made d.content d.images d.left d.clock d.faults Done c.args.disk.now c.create.new.disk
    (laid_down (d.content c.args.disk.now) (d.content c.create.new.disk) c.in-Ok.ensures.value)
    (λ done. images_none (d.content c.create.new.disk) (d.images c.create.new.disk) c.in-Ok.ensures.images) (λ never. absurd cc) c.in-Ok.ensures.others

-- bytes stood already
pub returns-in-Err-NotEmpty-clause-made : goal.returns-in-Err-NotEmpty-clause-made
returns-in-Err-NotEmpty-clause-made g c =
    let d = g.D.Disk in
    let same = ap Err c.in-Err-NotEmpty.field-0-is in
    is_made d.content d.images d.left d.clock d.faults NotEmpty c.args.disk.now c.create.new.disk (c.in-Err-NotEmpty.ensures.not_empty same)
    (λ never. absurd cc) (λ is. c.in-Err-NotEmpty.ensures.any_moment same) c.in-Err-NotEmpty.ensures.others

-- a call of the disk failed
pub returns-in-Err-Disk-clause-made : goal.returns-in-Err-Disk-clause-made
returns-in-Err-Disk-clause-made g c =
    let d = g.D.Disk in
    let same = ap Err c.in-Err-Disk.field-0-is in
    is_made d.content d.images d.left d.clock d.faults DiskFault c.args.disk.now c.create.new.disk (c.in-Err-Disk.ensures.after_fault same)
    (λ never. absurd cc) (λ never. absurd cc) c.in-Err-Disk.ensures.others
