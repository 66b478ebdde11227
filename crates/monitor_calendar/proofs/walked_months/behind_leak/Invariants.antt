use Rattle.std.proofs.Common.{◌≡◌, ℕ, ◌<◌, ◌≤◌, false, get_or}
use Rattle.ldar_law.specs.declared.event.Event.{Event}
use Rattle.ldar_law.specs.Happenings.{is_leak}
use Rattle.monitor_calendar.proofs.walked_months.behind_leak.Given as goal

-- no event from the place on is a leak
abbrev pub invariant-loop-place : goal.invariant-loop-place
invariant-loop-place l = record {
  within : l.place ≤ l.count;
  none : (k : ℕ) (e : Event) → l.place ≤ k → k < l.count → is_leak (get_or l.events k e).what ≡ false;
}

abbrev pub decreases-loop-place : goal.decreases-loop-place
decreases-loop-place l = l.place
