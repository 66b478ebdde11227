use Rattle.std.proofs.Common.{◌-◌, length}
use Rattle.skip_periods.specs.Counting.{CountsFrom}
use Rattle.skip_periods.proofs.counting.Counting.move_to.Given as goal

abbrev pub invariant-loop-self : goal.invariant-loop-self
invariant-loop-self l = CountsFrom l.equipment l.classes l.startup l.day l.quarter l.self

abbrev pub decreases-loop-self : goal.decreases-loop-self
decreases-loop-self l = length l.classes - l.self.entered
