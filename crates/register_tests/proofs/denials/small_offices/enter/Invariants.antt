use Rattle.std.proofs.Common.{◌≡◌}
use Rattle.register_tests.proofs.denials.small_offices.enter.Given as goal

abbrev pub invariant-loop-index : goal.invariant-loop-index
invariant-loop-index l = l.seen.items ≡ l.register.arrived
