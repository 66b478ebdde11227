use Rattle.std.proofs.Common.{◌≤◌, length}
use Rattle.method21_reading.specs.Leaps.{LeapsFrom}
use Rattle.method21_reading.proofs.leaps.leaps_of.Given as goal

abbrev pub invariant-loop-at : goal.invariant-loop-at
invariant-loop-at l = record {
  within : l.at ≤ length l.facts;
  sound : LeapsFrom l.facts l.leaps.items l.at;
}

abbrev pub decreases-loop-at : goal.decreases-loop-at
decreases-loop-at l = l.at
