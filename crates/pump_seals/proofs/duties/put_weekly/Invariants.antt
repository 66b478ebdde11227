use Rattle.std.proofs.Common.{◌≡◌, ◌++◌}
use Rattle.std.specs.List.{filter_map}
use Rattle.list_words.specs.Ranges.{until}
use Rattle.pump_seals.specs.Seals as spec
use Rattle.pump_seals.proofs.duties.put_weekly.Given as goal

abbrev pub invariant-loop-week : goal.invariant-loop-week
invariant-loop-week l =
    l.duties.items ++ filter_map (spec.weekly l.item l.switches l.looks l.day) (until l.week l.end)
    ≡ l.initial.duties.items ++ filter_map (spec.weekly l.item l.switches l.looks l.day) (spec.weeks_to l.day)
