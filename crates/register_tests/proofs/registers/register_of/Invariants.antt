use Rattle.std.proofs.Common.{◌≡◌}
use Rattle.register_tests.proofs.registers.register_of.Given as goal

abbrev pub invariant-loop-entry : goal.invariant-loop-entry
invariant-loop-entry l = l.seen.items ≡ l.register.arrived
