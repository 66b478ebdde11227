use Rattle.denials_bench.specs.Numbered.{AreNumbered}
use Rattle.denials_bench.proofs.measured.Given as goal

abbrev pub invariant-loop-number : goal.invariant-loop-number
invariant-loop-number l = AreNumbered l.entered l.register.arrived
