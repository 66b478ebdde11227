use Rattle.std.proofs.Common.{◌≡◌, take}
use Rattle.ldar_journal.proofs.history.Chapter.of.Given as goal

abbrev pub invariant-loop-batch : goal.invariant-loop-batch
invariant-loop-batch l = l.chapter ≡ take l.batch-index l.batches
