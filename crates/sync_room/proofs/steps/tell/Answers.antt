use Rattle.std.proofs.Common.{arith}
use Rattle.office_book.specs.Safe.{moment_of}
use Rattle.sync_room.specs.Turns.{IsDurable}
use Rattle.sync_room.proofs.Meets.{splits}
use Rattle.sync_room.proofs.steps.tell.Goals as goal

pub split_seat-requires : goal.split_seat-requires
split_seat-requires g c = (c.requires.own, omega (arith, c.requires.words), splits (moment_of g.D.Disk.clock g.D.Disk.faults) (IsDurable g.D.Disk.content g.D.Disk.images) _ _ _ c.requires.idle)
