use Rattle.std.proofs.Common.{◌≡◌, ℕ, List, ap, ◌∙◌}
use Rattle.std.specs.List.{filter_map}
use Rattle.fact_kinds.specs.declared.class.Class.{Class}
use Rattle.fact_kinds.specs.declared.key.Key.{Key}
use Rattle.fact_kinds.specs.Facts.{Entry}
use Rattle.ldar_law.specs.declared.equipment.Equipment.{Equipment}
use Rattle.ldar_law.specs.declared.event.Event.{Event}
use Rattle.ldar_law.specs.declared.fitness.Fitness.{Fitness}
use Rattle.ldar_law.specs.Events.{events_with, fitness_in}
use Rattle.ldar_law.proofs.EventLemmas.{events_are_judged_in_order}
use Rattle.method21_reading.specs.Readings.{AreEventsAmongAll}

pub events_among_all : (item : Equipment) (classes : List (Key × Class)) (limit : ℕ → ℕ) (facts : List Entry) (fitness : List Fitness) (events : List Event) →
    events ≡ events_with item classes limit facts fitness → AreEventsAmongAll item classes limit facts fitness events
events_among_all item classes limit facts fitness events given =
    λ all own judged.
    given
    ∙ ap (events_with item classes limit facts) judged
    ∙ ap (λ es. events_with item classes limit es (filter_map (fitness_in limit all) es)) own
    ∙ events_are_judged_in_order item classes limit all
