use Rattle.facts_bench.specs.Numbered.{AreNumbered}
use Rattle.facts_bench.proofs.filled_stores.filled.Given as goal

abbrev pub invariant-loop-some : goal.invariant-loop-some
invariant-loop-some l =
    (goal.iterator-loop-some).can_next l.some-iterator ×
    (goal.iterator-loop-some).is_finite l.some-iterator ×
    AreNumbered l.came l.store.arrived
