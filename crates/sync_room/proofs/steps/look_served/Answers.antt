use Rattle.std.proofs.Common.{arith}
use Rattle.office_book.specs.Safe.{moment_of}
use Rattle.sync_room.specs.Turns.{IsDurable}
use Rattle.sync_room.proofs.Looks.{looks_served}
use Rattle.sync_room.proofs.steps.look_served.Goals as goal

pub load-requires : goal.load-requires
load-requires g c = (c.requires.own, omega (arith, c.requires.words), looks_served (moment_of g.D.Disk.clock g.D.Disk.faults) (IsDurable g.D.Disk.content g.D.Disk.images) _ _ _ _ _ c.requires.waits.0 c.requires.waits.1)

pub returns-clause-looks : goal.returns-clause-looks
returns-clause-looks g c = c.load.ensures.2 _ c.requires.waits.0
