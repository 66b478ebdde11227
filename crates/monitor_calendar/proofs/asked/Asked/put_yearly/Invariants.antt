use Rattle.std.proofs.Common.{◌≡◌, ◌++◌}
use Rattle.std.specs.List.{filter_map}
use Rattle.list_words.specs.Ranges.{until}
use Rattle.monitor_calendar.specs.Causes as causes
use Rattle.monitor_calendar.proofs.asked.Asked.put_yearly.Given as goal

abbrev pub invariant-loop-year : goal.invariant-loop-year
invariant-loop-year l =
    l.duties.items ++ filter_map (causes.yearly l.self) (until l.year l.end)
    ≡ l.initial.duties.items ++ filter_map (causes.yearly l.self) (causes.years_after l.self)
