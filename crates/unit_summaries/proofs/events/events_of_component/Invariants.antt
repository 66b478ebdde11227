use Rattle.std.proofs.Common.{◌≡◌, ℕ, ◌+◌, ◌≤◌, List, take}
use Rattle.std.specs.List.{filter_map}
use Rattle.fact_store.specs.Kept.{facts_in}
use Rattle.ldar_law.specs.Events.{event_of, fitness_among}
use Rattle.ldar_law.specs.Force.{limit_on}
use Rattle.method21_reading.specs.Standings.{StandsSo}
use Rattle.unit_summaries.specs.Cost.{AreReady, UsesOnly, cost_left}
use Rattle.unit_summaries.proofs.events.events_of_component.Given as goal

abbrev pub invariant-loop-e : goal.invariant-loop-e
invariant-loop-e g l = record {
  stands : StandsSo l.item l.classes l.standing;
  made : l.events.items ≡ filter_map (λ e. event_of l.item l.classes (limit_on l.item l.classes) e
      (fitness_among (limit_on l.item l.classes) (facts_in l.lists.store.now) e)) (take l.e-index l.own);
  ready : AreReady l.ready.items (facts_in l.lists.store.now);
  left : (pool : List ℕ) → UsesOnly pool l.own → l.steps + cost_left (facts_in l.lists.store.now) pool l.ready.items
      ≤ l.initial.steps + cost_left (facts_in l.lists.store.now) pool l.initial.ready.items;
}
