use Rattle.std.proofs.Common.{ap, sym}
use Rattle.office_book.specs.Safe.{moment_of}
use Rattle.sync_room.specs.Turns.{IsDurable}
use Rattle.sync_room.proofs.Opens.{opens}
use Rattle.sync_room.proofs.room.Room.open_room.Goals as goal

pub new-requires : goal.new-requires
new-requires g c = opens (moment_of g.D.Disk.clock g.D.Disk.faults) (IsDurable g.D.Disk.content g.D.Disk.images) _ _ c.args.book c.in_ok-slots.ensures.made (ap (moment_of g.D.Disk.clock g.D.Disk.faults) (sym c.of-key.ensures)) c.stands.ensures.law
