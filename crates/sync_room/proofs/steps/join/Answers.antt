use Rattle.std.proofs.Common.{arith}
use Rattle.office_book.specs.Safe.{moment_of}
use Rattle.sync_room.specs.Turns.{IsDurable}
use Rattle.sync_room.proofs.Meets.{joins}
use Rattle.sync_room.proofs.steps.join.Goals as goal

pub join_seat-requires : goal.join_seat-requires
join_seat-requires g c =
    (c.requires.own.0, c.requires.own.1, c.requires.idle.2, omega (arith, c.requires.words), joins (moment_of g.D.Disk.clock g.D.Disk.faults) (IsDurable g.D.Disk.content g.D.Disk.images) _ _ _ _ _ c.requires.idle.0 c.requires.idle.1)
