use Rattle.std.proofs.Common.{◌≡◌, ◌≤◌, ◌++◌, length}
use Rattle.std.specs.List.{AllByRecursion}
use Rattle.ldar_journal.specs.Image.{IsBatch, payload}
use Rattle.ldar_journal.proofs.frame.read_batches.Given as goal

-- the bytes are the batches so far and the rest
abbrev pub invariant-loop-rest : goal.invariant-loop-rest
invariant-loop-rest l = record {
  whole : l.bytes ≡ payload l.batches.items ++ l.rest;
  each : AllByRecursion IsBatch l.batches.items;
  fits : length l.batches.items ≤ 16;
}

abbrev pub decreases-loop-rest : goal.decreases-loop-rest
decreases-loop-rest l = length l.rest
