use Rattle.std.proofs.Common.{◌≡◌}
use Rattle.register_tests.proofs.stores.store_of.Given as goal

abbrev pub invariant-loop-entry : goal.invariant-loop-entry
invariant-loop-entry l = l.seen.items ≡ l.store.arrived
