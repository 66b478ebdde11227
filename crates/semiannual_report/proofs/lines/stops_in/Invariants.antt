use Rattle.std.proofs.Common.{◌≡◌, filter, take}
use Rattle.ldar_law.specs.Reports as law
use Rattle.semiannual_report.proofs.lines.stops_in.Given as goal

abbrev pub invariant-loop-stop : goal.invariant-loop-stop
invariant-loop-stop l = l.found.items ≡ filter (law.is_stop_in l.first l.last) (take l.stop-index l.stops)
