use Rattle.std.proofs.Common.{◌≡◌, ◌++◌, drop}
use Rattle.std.specs.List.{filter_map}
use Rattle.pump_seals.specs.Seals as spec
use Rattle.pump_seals.proofs.duties.put_after_drips.Given as goal

abbrev pub invariant-loop-moment : goal.invariant-loop-moment
invariant-loop-moment l =
    l.duties.items ++ filter_map (spec.after_drips l.answers l.day) (drop l.moment-index l.drips)
    ≡ l.initial.duties.items ++ filter_map (spec.after_drips l.answers l.day) l.drips
