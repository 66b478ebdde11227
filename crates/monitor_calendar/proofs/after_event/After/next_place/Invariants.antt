use Rattle.std.proofs.Common.{◌≡◌, ℕ, ◌<◌, ◌≤◌, false, length, get_or}
use Rattle.ldar_law.specs.declared.event.Event.{Event}
use Rattle.monitor_calendar.specs.Following.{meets}
use Rattle.monitor_calendar.proofs.after_event.After.next_place.Given as goal

abbrev pub invariant-loop-place : goal.invariant-loop-place
invariant-loop-place l = record {
  behind : l.from ≤ l.place;
  within : l.place ≤ length l.events;
  none : (k : ℕ) (d : Event) → l.from ≤ k → k < l.place → meets l.self (get_or l.events k d).what ≡ false;
}
