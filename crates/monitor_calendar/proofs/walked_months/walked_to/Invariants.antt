use Rattle.std.proofs.Common.{◌≡◌, ◌+◌}
use Rattle.monitor_calendar.specs.Walks.{IsOn}
use Rattle.monitor_calendar.proofs.walked_months.walked_to.Given as goal

-- some events further, on the way to the month
abbrev pub invariant-loop-e : goal.invariant-loop-e
invariant-loop-e l = record {
  at : l.place ≡ l.fn.walk.place + l.e-index;
  on : IsOn l.past l.events l.place l.days.month;
}
