use Rattle.std.proofs.Common.{◌≤◌}
use Rattle.method21_reading.proofs.near.low_from.Given as goal

abbrev pub invariant-loop-low : goal.invariant-loop-low
invariant-loop-low l = (l.low ≤ l.place) × (1 ≤ l.step)

abbrev pub decreases-loop-low : goal.decreases-loop-low
decreases-loop-low l = l.low
