use Rattle.std.proofs.Common.{◌≡◌, ◌++◌, drop}
use Rattle.pump_seals.specs.Seals as spec
use Rattle.pump_seals.proofs.on_duty.on_duty.Given as goal

abbrev pub invariant-loop-moment : goal.invariant-loop-moment
invariant-loop-moment l =
    l.found.items ++ spec.on_duty l.item l.switches (drop l.moment-index l.moments) ≡ spec.on_duty l.item l.switches l.moments
