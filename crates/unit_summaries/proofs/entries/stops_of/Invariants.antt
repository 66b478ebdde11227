use Rattle.std.proofs.Common.{◌≡◌, ◌++◌, drop}
use Rattle.ldar_law.specs.Equipment as law
use Rattle.unit_summaries.proofs.entries.stops_of.Given as goal

abbrev pub invariant-loop-e : goal.invariant-loop-e
invariant-loop-e l = l.stops.items ++ law.stops_of l.number (drop l.e-index l.facts) ≡ law.stops_of l.number l.facts
