use Rattle.std.proofs.Common.{arith}
use Rattle.office_book.specs.Safe.{moment_of}
use Rattle.sync_room.specs.Turns.{IsDurable}
use Rattle.sync_room.proofs.Draws.{draws}
use Rattle.sync_room.proofs.steps.draw.Goals as goal

pub compare_exchange-requires : goal.compare_exchange-requires
compare_exchange-requires g c = (c.requires.own, omega (arith, c.requires.words), draws (moment_of g.D.Disk.clock g.D.Disk.faults) (IsDurable g.D.Disk.content g.D.Disk.images) _ _ _ _ _ c.requires.idle.0 c.requires.bounded)
