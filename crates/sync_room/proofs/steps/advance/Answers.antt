use Rattle.std.proofs.Common.{arith}
use Rattle.office_book.specs.Safe.{moment_of}
use Rattle.sync_room.specs.Turns.{IsDurable}
use Rattle.sync_room.proofs.Advances.{advances}
use Rattle.sync_room.proofs.steps.advance.Goals as goal

pub fetch_add-requires : goal.fetch_add-requires
fetch_add-requires g c =
    let has = c.requires.keeps in
    (c.requires.own, omega (arith, c.requires.words), advances (moment_of g.D.Disk.clock g.D.Disk.faults) (IsDurable g.D.Disk.content g.D.Disk.images) _ _ _ _ _ has.0 has.1 has.2 has.3 has.4 has.5)
