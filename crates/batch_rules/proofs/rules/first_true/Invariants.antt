use Rattle.std.proofs.Common.{◌≡◌, ◌+◌, drop}
use Rattle.batch_rules.specs.Table.{first_true_from}
use Rattle.batch_rules.proofs.rules.first_true.Given as goal

abbrev pub invariant-loop-index : goal.invariant-loop-index
invariant-loop-index l = first_true_from 1 l.findings ≡ first_true_from (l.index + 1) (drop l.index l.findings)
