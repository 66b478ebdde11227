use Rattle.std.proofs.Common.{◌≤◌, ◌-◌, length}
use Rattle.method21_reading.specs.Leaps.{NonePast}
use Rattle.method21_reading.proofs.leaps.first_past.Given as goal

abbrev pub invariant-loop-at : goal.invariant-loop-at
invariant-loop-at l = (l.from ≤ l.at) × (l.at ≤ length l.facts) × NonePast l.instrument l.limit l.ppm l.facts l.from l.at

abbrev pub decreases-loop-at : goal.decreases-loop-at
decreases-loop-at l = length l.facts - l.at
