use Rattle.std.proofs.Common.{◌≤◌, ◌-◌, length}
use Rattle.method21_reading.proofs.near.high_from.Given as goal

abbrev pub invariant-loop-high : goal.invariant-loop-high
invariant-loop-high l = (l.place ≤ l.high) × (l.high ≤ length l.facts) × (1 ≤ l.step)

abbrev pub decreases-loop-high : goal.decreases-loop-high
decreases-loop-high l = length l.facts - l.high
