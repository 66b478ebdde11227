use Rattle.std.proofs.Common.{◌≡◌, ℕ, ◌-◌, ◌≤◌, List, ◌++◌, length}
use Rattle.disk_model.specs.Keeps.{Keeps}
use Rattle.disk_model.specs.Told.{BothTold}
use Rattle.ldar_journal.specs.Window.{IsAhead, OnlyReads}
use Rattle.ldar_journal.proofs.window.fill.Given as goal

-- the bytes read so far follow those of the window
abbrev pub invariant-loop-window : goal.invariant-loop-window
invariant-loop-window g l = record {
  more : (more : List ℕ) × (l.window ≡ record { bytes = l.fn.window.bytes ++ more; size = l.fn.window.size });
  ahead : BothTold (g.D.Disk.content l.fn.disk) (g.D.Disk.content l.disk)
      (λ old new. IsAhead l.place l.fn.window.bytes old → IsAhead l.place l.window.bytes old);
  reads : OnlyReads g.D.Disk.content g.D.Disk.images g.D.Disk.left g.D.Disk.clock l.fn.disk l.disk;
  room : g.D.Disk.room l.disk ≡ g.D.Disk.room l.fn.disk;
  keeps : Keeps g.D.Disk.clock g.D.Disk.name g.D.Disk.faults l.fn.disk l.disk;
}

abbrev pub decreases-loop-window : goal.decreases-loop-window
decreases-loop-window g l = l.wanted - length l.window.bytes
