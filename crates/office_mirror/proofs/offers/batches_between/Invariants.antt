use Rattle.std.proofs.Common.{◌≡◌, ◌-◌, ◌≤◌, take, drop}
use Rattle.ldar_journal.specs.Image.{batches_of}
use Rattle.office_mirror.proofs.offers.batches_between.Given as goal

abbrev pub invariant-loop-held : goal.invariant-loop-held
invariant-loop-held g l = (l.batches.items ≡ take (l.held - l.start) (drop l.start (batches_of l.book.frames))) × (l.start ≤ l.held)
