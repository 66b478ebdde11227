use Rattle.std.proofs.Common.{List}
use Rattle.ldar_journal.specs.Image.{batches_of}
use Rattle.ldar_law.specs.Machine.{Call}
use Rattle.office_book.specs.Safe.{Leads}
use Rattle.office_mirror.specs.Taking.{AreTaken}
use Rattle.office_mirror.proofs.mirror.Mirror.take_batches.Given as goal

abbrev pub invariant-loop-index : goal.invariant-loop-index
invariant-loop-index g l =
    (calls : List Call) × Leads g.D.Disk.content g.D.Disk.left g.D.Disk.clock g.D.Disk.name g.D.Disk.faults l.fn.self calls l.self
    × AreTaken l.answer l.index (batches_of l.self.frames) calls
