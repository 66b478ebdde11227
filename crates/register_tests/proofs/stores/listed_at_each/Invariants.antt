use Rattle.std.proofs.Common.{◌≡◌}
use Rattle.register_tests.proofs.stores.listed_at_each.Given as goal

abbrev pub invariant-loop-at : goal.invariant-loop-at
invariant-loop-at l = l.seen.items ≡ l.facts.arrived
