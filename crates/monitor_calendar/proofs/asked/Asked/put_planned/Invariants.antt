use Rattle.std.proofs.Common.{◌≡◌, ◌++◌}
use Rattle.std.specs.List.{filter_map}
use Rattle.list_words.specs.Ranges.{until}
use Rattle.monitor_calendar.specs.Causes as causes
use Rattle.monitor_calendar.proofs.asked.Asked.put_planned.Given as goal

abbrev pub invariant-loop-month : goal.invariant-loop-month
invariant-loop-month l =
    l.duties.items ++ filter_map (causes.planned l.self) (until l.month l.end)
    ≡ l.initial.duties.items ++ filter_map (causes.planned l.self) (causes.window_ends l.self)
