use Rattle.office_book.specs.Safe.{moment_of}
use Rattle.sync_room.specs.Turns.{IsDurable}
use Rattle.sync_room.proofs.Closes.{left, left_there, left_moment}
use Rattle.sync_room.proofs.room.end.Goals as goal

pub unreachable-requires : goal.unreachable-requires
unreachable-requires g c =
    let is = left (moment_of g.D.Disk.clock g.D.Disk.faults) (IsDurable g.D.Disk.content g.D.Disk.images) _ _ _ _ _ c.close_with-closed.ensures.values.2 c.requires.last in
    c.in_default.not-Some is.book (left_there (moment_of g.D.Disk.clock g.D.Disk.faults) _ _ _ is c.take-slot.ensures.value)

pub returns : goal.returns
returns g c =
    let is = left (moment_of g.D.Disk.clock g.D.Disk.faults) (IsDurable g.D.Disk.content g.D.Disk.images) _ _ _ _ _ c.close_with-closed.ensures.values.2 c.requires.last in
    record { moment = left_moment (moment_of g.D.Disk.clock g.D.Disk.faults) _ _ _ is c.in-Some.ensures.value; durable = c.stands.ensures.law }
