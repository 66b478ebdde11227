-- Laws about readings and events, for any leak definition of each day: the statements of `laws::readings`.
use Rattle.std.specs.Prelude.{◌≡◌, ℕ, Some, List, filter_map}
use Rattle.list_words.specs.Order.{Ascends}
use Rattle.fact_kinds.specs.declared.class.Class.{Class}
use Rattle.fact_kinds.specs.declared.key.Key.{Key}
use Rattle.fact_kinds.specs.Facts.{Entry, is_earlier, goes_first}
use Rattle.fact_kinds.specs.Named.{reading_instrument}
use Rattle.ldar_law.specs.declared.equipment.Equipment.{Equipment}
use Rattle.ldar_law.specs.Events.{events_with, fitness_among, fitness_in, events_in}
use Rattle.ldar_law.specs.Fitness.{fitness_of}
use Rattle.ldar_law.specs.Slices.{facts_of_instrument, facts_of_component}

-- the fitness of a reading depends only on the facts of its instrument
abbrev pub FitnessIsOfInstrument : Type 0
FitnessIsOfInstrument =
    (facts : List Entry) (limit : ℕ) (key : Key) (instrument ppm : ℕ)
    → fitness_of (facts_of_instrument instrument facts) limit key instrument ppm ≡ fitness_of facts limit key instrument ppm

-- judging each reading in its place gives the same events as judging from a list of the readings' fitnesses
abbrev pub EventsAreJudgedInOrder : Type 0
EventsAreJudgedInOrder =
    (item : Equipment) (classes : List (Key × Class)) (limit : ℕ → ℕ) (facts : List Entry)
    → events_with item classes limit (facts_of_component item.component facts)
    (filter_map (fitness_in limit facts) (facts_of_component item.component facts))
    ≡ events_in item classes limit facts

-- the fitness of a reading's entry depends only on the facts of its instrument
abbrev pub ReadingsAreOfInstrument : Type 0
ReadingsAreOfInstrument =
    (limit : ℕ → ℕ) (facts : List Entry) (e : Entry) (instrument : ℕ)
    → reading_instrument e.1.body ≡ Some instrument
    → fitness_among limit (facts_of_instrument instrument facts) e ≡ fitness_among limit facts e

-- the events of a component are in key order if the facts are
abbrev pub EventsAscend : Type 0
EventsAscend =
    (item : Equipment) (classes : List (Key × Class)) (limit : ℕ → ℕ) (facts : List Entry)
    → Ascends goes_first facts → Ascends (λ a b. is_earlier a.key b.key) (events_in item classes limit facts)
