use Rattle.std.proofs.Common.{◌≡◌, drop}
use Rattle.facts_bench.specs.Numbered.{AreNumbered}
use Rattle.facts_bench.proofs.filled_stores.add_arrivals.Given as goal

abbrev pub invariant-loop-fact : goal.invariant-loop-fact
invariant-loop-fact l = record {
  numbered : AreNumbered l.came l.arrivals.arrived;
  spare : l.arrivals.spare ≡ drop l.fact-index l.facts;
}
