use Rattle.std.proofs.Common.{◌≡◌, ◌-◌, ◌≤◌}
use Rattle.disk_model.specs.Keeps.{Keeps}
use Rattle.ldar_journal.specs.Image.{batches_of, fact_count}
use Rattle.ldar_journal.specs.Window.{OnlyReads}
use Rattle.office_book.specs.Opened.{HasTaken}
use Rattle.office_views.specs.Viewed.{held_of}
use Rattle.office_book.proofs.opening.read_frames.Given as goal

-- the batches of the frames so far were adopted
abbrev pub invariant-loop-frame : goal.invariant-loop-frame
invariant-loop-frame g l = record {
  taken : HasTaken (batches_of l.opening.frames) (held_of l.intake.views) l.intake.denied;
  few : fact_count (batches_of l.opening.frames) ≤ 8_000_000;
  reads : OnlyReads g.D.Disk.content g.D.Disk.images g.D.Disk.left g.D.Disk.clock l.fn.opening.disk l.opening.disk;
  room : g.D.Disk.room l.opening.disk ≡ g.D.Disk.room l.fn.opening.disk;
  keeps : Keeps g.D.Disk.clock g.D.Disk.name g.D.Disk.faults l.fn.opening.disk l.opening.disk;
}

abbrev pub decreases-loop-frame : goal.decreases-loop-frame
decreases-loop-frame g l = 8_000_000 - fact_count (batches_of l.opening.frames)
