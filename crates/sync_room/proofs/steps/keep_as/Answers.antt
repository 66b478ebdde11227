use Rattle.std.proofs.Common.{arith}
use Rattle.office_book.specs.Safe.{moment_of}
use Rattle.sync_room.specs.Turns.{IsDurable}
use Rattle.sync_room.proofs.Keeps.{keeps_answer}
use Rattle.sync_room.proofs.steps.keep_as.Goals as goal

pub load-requires : goal.load-requires
load-requires g c =
    let picked = c.requires.picked in
    let named = c.requires.named in
    (c.requires.own, omega (arith, c.requires.words), keeps_answer (moment_of g.D.Disk.clock g.D.Disk.faults) (IsDurable g.D.Disk.content g.D.Disk.images) _ _ _ _ named.0 _ _ _ _ _ _ _ c.requires.works named.1 c.requires.legal c.requires.turn picked.0 picked.1 picked.2)
