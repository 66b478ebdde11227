use Rattle.std.proofs.Common.{◌≡◌, take}
use Rattle.std.specs.List.{AllByRecursion}
use Rattle.ldar_journal.specs.Image.{IsBatch, payload}
use Rattle.ldar_journal.proofs.prepared.payload_of.Given as goal

abbrev pub invariant-loop-batch : goal.invariant-loop-batch
invariant-loop-batch l =
    (l.bytes.items ≡ payload (take l.batch-index l.batches)) × AllByRecursion IsBatch (take l.batch-index l.batches)
