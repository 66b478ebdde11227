use Rattle.std.proofs.Common.{◌≡◌, ◌<◌, ◌+◌, ◌++◌, length}
use Rattle.register_import.specs.Batches as spec
use Rattle.register_import.proofs.batches.batches_of.Given as goal

abbrev pub invariant-loop-rest : goal.invariant-loop-rest
invariant-loop-rest l =
    (l.batches.items ++ spec.batches_of l.next l.rest ≡ spec.batches_of l.fn.number l.fn.facts) × (l.next + length l.rest < 4_294_967_296)

abbrev pub decreases-loop-rest : goal.decreases-loop-rest
decreases-loop-rest l = length l.rest
