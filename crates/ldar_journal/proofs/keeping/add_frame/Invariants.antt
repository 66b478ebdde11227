use Rattle.std.proofs.Common.{◌-◌, ◌≤◌, ◌++◌, length, take}
use Rattle.ldar_journal.specs.Image.{batches_of}
use Rattle.ldar_journal.specs.Known.{IsKnown}
use Rattle.ldar_journal.proofs.keeping.add_frame.Given as goal

-- the batches before this one are known, and the others still fit
abbrev pub invariant-loop-added : goal.invariant-loop-added
invariant-loop-added l = record {
  known : IsKnown (batches_of l.frames ++ take l.added l.batches) l.positions.identities l.count;
  room : length l.batches - l.added ≤ l.positions.room;
}
