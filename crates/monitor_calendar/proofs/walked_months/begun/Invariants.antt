use Rattle.std.proofs.Common.{◌≤◌}
use Rattle.monitor_calendar.specs.Walks.{IsOn}
use Rattle.monitor_calendar.proofs.walked_months.begun.Given as goal

abbrev pub invariant-loop-k : goal.invariant-loop-k
invariant-loop-k l = record {
  to : l.k ≤ l.count;
  on : IsOn l.past l.events l.k l.days.month;
}
