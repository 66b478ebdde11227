use Rattle.std.proofs.Common.{arith}
use Rattle.office_book.specs.Safe.{moment_of}
use Rattle.sync_room.specs.Turns.{IsDurable}
use Rattle.sync_room.proofs.Looks.{looks_idle}
use Rattle.sync_room.proofs.steps.look.Goals as goal

pub load-requires : goal.load-requires
load-requires g c = (c.requires.own, omega (arith, c.requires.words), looks_idle (moment_of g.D.Disk.clock g.D.Disk.faults) (IsDurable g.D.Disk.content g.D.Disk.images) _ _ _ _ c.requires.idle)
