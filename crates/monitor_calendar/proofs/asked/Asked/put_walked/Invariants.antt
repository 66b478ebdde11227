use Rattle.std.proofs.Common.{◌≡◌, ◌+◌, ◌≤◌, ◌++◌}
use Rattle.std.specs.List.{filter_map}
use Rattle.list_words.specs.Ranges.{until}
use Rattle.ldar_law.specs.ClassInForce.{IsInForce}
use Rattle.monitor_calendar.specs.Causes as causes
use Rattle.monitor_calendar.specs.Walks.{IsOn}
use Rattle.monitor_calendar.proofs.asked.Asked.put_walked.Given as goal

abbrev pub invariant-loop-number : goal.invariant-loop-number
invariant-loop-number l = record {
  near : (l.days.month ≤ l.number) × (l.number ≤ l.days.month + 1);
  stands : IsInForce l.self.item.now l.self.classes.now l.under;
  walk : IsOn l.walk.past l.self.events.now l.walk.place l.number;
  monthly :
      l.duties.items ++ filter_map (causes.monthly l.self) (until l.number l.months.end)
      ≡ l.initial.duties.items ++ filter_map (causes.monthly l.self) (causes.months_after l.self);
  quarterly :
      l.quarterlies.items ++ filter_map (causes.quarterly l.self) (until l.number l.months.end)
      ≡ l.initial.quarterlies.items ++ filter_map (causes.quarterly l.self) (causes.months_after l.self);
}
