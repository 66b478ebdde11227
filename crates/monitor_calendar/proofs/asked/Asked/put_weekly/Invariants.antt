use Rattle.std.proofs.Common.{◌≡◌, ◌++◌}
use Rattle.std.specs.List.{filter_map}
use Rattle.list_words.specs.Ranges.{until}
use Rattle.monitor_calendar.specs.Causes as causes
use Rattle.monitor_calendar.proofs.asked.Asked.put_weekly.Given as goal

abbrev pub invariant-loop-week : goal.invariant-loop-week
invariant-loop-week l =
    l.duties.items ++ filter_map (causes.weekly l.self) (until l.week l.end)
    ≡ l.initial.duties.items ++ filter_map (causes.weekly l.self) (causes.weeks_after l.self)
