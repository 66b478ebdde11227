use Rattle.std.proofs.Common.{◌≡◌, drop, slice_get}
use Rattle.ldar_law.specs.Delays as law
use Rattle.delay_of_repair.proofs.shutdowns.stop_after.Given as goal

abbrev pub invariant-loop-stop : goal.invariant-loop-stop
invariant-loop-stop l =
    slice_get (law.stops_after l.detected l.stops) l.place
    ≡ slice_get (law.stops_after l.detected (drop l.stop-index l.stops)) l.left
