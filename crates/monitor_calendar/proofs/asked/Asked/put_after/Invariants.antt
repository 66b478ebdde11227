use Rattle.std.proofs.Common.{◌≡◌, ◌++◌, take, drop}
use Rattle.list_words.specs.Words.{each_from, each_where}
use Rattle.monitor_calendar.specs.Following as following
use Rattle.monitor_calendar.proofs.asked.Asked.put_after.Given as goal

abbrev pub invariant-loop-place : goal.invariant-loop-place
invariant-loop-place l = record {
  done :
      l.duties.items ++ each_from (following.after_event l.self l.after) (take l.place l.self.events.now) (drop l.place l.self.events.now)
      ≡ l.initial.duties.items ++ each_where (following.after_event l.self l.after) l.self.events.now;
  tells : following.TellsFor l.after l.past (take l.place l.self.events.now);
  next : following.NoneMeets l.after l.self.events.now l.place l.next;
}
