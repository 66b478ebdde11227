use Rattle.std.proofs.Common.{drop}
use Rattle.leak_tags.specs.Telling.{Rises}
use Rattle.leak_tags.proofs.rising.are_rising.Given as goal

abbrev pub invariant-loop-event : goal.invariant-loop-event
invariant-loop-event l = record {
  here : Rises l.today (drop l.event-index l.events) → Rises 0 l.events;
  there : Rises 0 l.events → Rises l.today (drop l.event-index l.events);
}
