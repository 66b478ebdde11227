-- The events of a component, each fact judged in its place.
use Rattle.std.proofs.Common.{◌≡◌, ℕ, refl}
use Rattle.std.specs.List.{filter_map}
use Rattle.fact_kinds.specs.declared.class.Class.{Class}
use Rattle.fact_kinds.specs.declared.key.Key.{Key}
use Rattle.fact_kinds.specs.Facts.{Entry}
use Rattle.ldar_law.specs.declared.equipment.Equipment.{Equipment}
use Rattle.ldar_law.specs.Events.{event_of, events_in, fitness_among}
use Rattle.ldar_law.specs.Slices.{facts_of_component}
use Rattle.std.specs.Prelude.{List}

-- the events of a component are its own facts, each judged
pub events_are : (item : Equipment) (classes : List (Key × Class)) (limit : ℕ → ℕ) (facts : List Entry)
    → filter_map (λ e. event_of item classes limit e (fitness_among limit facts e)) (facts_of_component item.component facts)
    ≡ events_in item classes limit facts
unfolding events_in
events_are item classes limit facts = refl
