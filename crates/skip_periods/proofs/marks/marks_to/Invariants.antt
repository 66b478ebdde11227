use Rattle.std.proofs.Common.{◌+◌}
use Rattle.skip_periods.specs.Counting.{CountsFrom}
use Rattle.skip_periods.specs.Seen.{AreMarkedTo}
use Rattle.skip_periods.proofs.marks.marks_to.Given as goal

abbrev pub invariant-loop-past : goal.invariant-loop-past
invariant-loop-past l = record {
  stands : CountsFrom l.equipment l.classes l.startup l.day (l.past + 1) l.counting;
  marked : AreMarkedTo l.equipment l.classes l.startup l.events l.delayed l.day l.quarter l.past l.marks.items;
}
