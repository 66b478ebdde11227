use Rattle.office_mirror.proofs.TakenLemmas.{keeps_mirror, asks, fault_caused}
use Rattle.office_mirror.proofs.mirror.Mirror.take.Goals as goal

pub returns-clause-steps : goal.returns-clause-steps
returns-clause-steps g c =
    let was = c.take_near.ensures.value in
    asks g.D.Disk.content g.D.Disk.left g.D.Disk.clock g.D.Disk.name g.D.Disk.faults c.args.answer.now c.args.self.now c.take_near.new.self was.0 was.1
    c.take_near.result was.2

pub returns-clause-mirrors : goal.returns-clause-mirrors
returns-clause-mirrors g c = λ all ruly differ mirror from.
    let was = c.take_near.ensures.value in
    keeps_mirror g.D.Disk.content g.D.Disk.left g.D.Disk.clock g.D.Disk.name g.D.Disk.faults all ruly differ c.args.answer.now from c.args.self.now
    c.take_near.new.self was.0 was.1 mirror c.take_near.result was.2

pub returns-clause-cause : goal.returns-clause-cause
returns-clause-cause g c = λ told.
    let was = c.take_near.ensures.value in
    fault_caused g.D.Disk.content g.D.Disk.left g.D.Disk.clock g.D.Disk.name g.D.Disk.faults c.args.answer.now c.args.self.now c.take_near.new.self was.0 was.1
    c.take_near.result told was.2
