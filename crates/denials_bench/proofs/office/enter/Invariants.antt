use Rattle.denials_bench.specs.Numbered.{AreNumbered}
use Rattle.denials_bench.proofs.office.enter.Given as goal

abbrev pub invariant-loop-fact : goal.invariant-loop-fact
invariant-loop-fact l = AreNumbered l.entered l.register.arrived
