-- Laws about the lists that decide on a component: its own facts, its instruments' tests, and what is entered for its process unit. The
-- statements of `known`.
use Rattle.std.specs.Prelude.{◌≡◌, ℕ, Bool, Some, List, [], ◌∷◌, filter, filter_map, nat_le, option_map}
use Rattle.std.specs.List.{AllByRecursion}
use Rattle.fact_kinds.specs.declared.body.FactBody.{FactBody}
use Rattle.fact_kinds.specs.declared.body.FactBody.TheVariants.{Reading}
use Rattle.fact_kinds.specs.declared.class.Class.{Class}
use Rattle.fact_kinds.specs.declared.key.Key.{Key}
use Rattle.fact_kinds.specs.Facts.{Entry}
use Rattle.fact_kinds.specs.Named.{reading_instrument}
use Rattle.ldar_law.specs.declared.equipment.Equipment.{Equipment}
use Rattle.ldar_law.specs.declared.event.Event.{Event}
use Rattle.ldar_law.specs.declared.fitness.Fitness.{Fitness}
use Rattle.ldar_law.specs.declared.fitness.Fitness.TheVariants.{NoCalibration}
use Rattle.ldar_law.specs.declared.of_unit.OfUnit.{OfUnit}
use Rattle.ldar_law.specs.Equipment.{equipment_of, classes_of, members_of, of_unit}
use Rattle.ldar_law.specs.Events.{event_of, events_in}
use Rattle.ldar_law.specs.Fitness.{fitness_of}
use Rattle.ldar_law.specs.Force.{limit_on}
use Rattle.ldar_law.specs.Shown.{sheet_of}
use Rattle.ldar_law.specs.Slices.{facts_of_component, facts_of_unit, facts_of_instrument}
use Rattle.ldar_law.specs.Stirred.{matters}
use Rattle.ldar_law.specs.Units.{Known, known_of, known_with, components_of, mark_in, due_list}
use Rattle.history_laws.specs.RulyLaws.{IsEachOnce}
use Rattle.history_laws.specs.DayLaws.{up_to, item_on, events_to, of_unit_to}

-- ---- a component's lists

-- the fitness of a reading with this key, by the leak definition of each day and the tests of each instrument
abbrev pub fitness_by : (ℕ → ℕ) → (ℕ → List Entry) → Key → FactBody → Fitness
fitness_by limit tests key (Reading _ instrument _ _ ppm _) = fitness_of (tests instrument) (limit key.day) key instrument ppm
fitness_by limit tests key _ = NoCalibration

-- the events of a component, from its own facts and the tests of each instrument
abbrev pub events_by : Equipment → List (Key × Class) → (ℕ → ℕ) → List Entry → (ℕ → List Entry) → List Event
events_by item classes limit own tests = filter_map (λ e. event_of item classes limit e (fitness_by limit tests e.0 e.1.body)) own

-- a component, from its own facts, the tests of each instrument and what is entered for its process unit
abbrev pub known_from : Equipment → List Entry → (ℕ → List Entry) → OfUnit → Known
known_from item own tests unit =
    let classes = classes_of item.component own in
    known_with item classes (events_by item classes (limit_on item classes) own tests) unit

-- the facts that name a component, the tests of each instrument, and the facts that name its process unit are enough for the component
pub record IsKnownByItsLists (item : Equipment) (facts : List Entry) : Type 0 where
  pub equipment : equipment_of item.component (facts_of_component item.component facts) ≡ equipment_of item.component facts
  pub known : known_from item (facts_of_component item.component facts) (λ instrument. facts_of_instrument instrument facts)
      (of_unit item.unit (facts_of_unit item.unit facts))
      ≡ known_of facts item

abbrev pub KnownByItsLists : Type 0
KnownByItsLists = (item : Equipment) (facts : List Entry) → IsKnownByItsLists item facts

-- a component of a process unit, from these lists
abbrev pub known_in_unit : ℕ → ℕ → List Entry → Equipment → Known
known_in_unit unit number facts item =
    known_from item (facts_of_component number facts) (λ instrument. facts_of_instrument instrument facts) (of_unit unit (facts_of_unit unit facts))

-- if each component is entered only once, these lists are enough for the components of a process unit, which are found by the facts that
-- name the unit
abbrev pub ComponentsByTheirLists : Type 0
ComponentsByTheirLists =
    (unit : ℕ) (facts : List Entry) → IsEachOnce facts
    → components_of unit facts
    ≡ filter_map (λ number. option_map (known_in_unit unit number facts) (equipment_of number (facts_of_component number facts)))
    (members_of unit (facts_of_unit unit facts))

-- ---- two lists of facts

-- the fitness of a reading depends only on the facts that matter to it
abbrev pub FitnessIsOfWhatMatters : Type 0
FitnessIsOfWhatMatters =
    (facts : List Entry) (limit : ℕ) (key : Key) (instrument ppm : ℕ)
    → fitness_of (filter (matters instrument key.day) facts) limit key instrument ppm ≡ fitness_of facts limit key instrument ppm

-- if two lists have the same tests of an instrument, the same facts matter
abbrev pub SameTestsMatter : Type 0
SameTestsMatter =
    (facts other : List Entry) (instrument day : ℕ) → facts_of_instrument instrument other ≡ facts_of_instrument instrument facts
    → filter (matters instrument day) other ≡ filter (matters instrument day) facts

-- both lists have the same facts that name the component and the same facts that matter to its readings
pub record HasSameFacts (number : ℕ) (facts other : List Entry) : Type 0 where
  pub own : facts_of_component number other ≡ facts_of_component number facts
  pub tests : AllByRecursion (λ e. (instrument : ℕ) → reading_instrument e.1.body ≡ Some instrument
      → filter (matters instrument e.0.day) other ≡ filter (matters instrument e.0.day) facts) (facts_of_component number facts)

-- by both lists, the component has the same classes, and the same events for any classes and any leak definition of each day
pub record IsJudgedAlike (item : Equipment) (facts other : List Entry) : Type 0 where
  pub equipment : equipment_of item.component other ≡ equipment_of item.component facts
  pub classes : classes_of item.component other ≡ classes_of item.component facts
  pub events : (classes : List (Key × Class)) (limit : ℕ → ℕ) → events_in item classes limit other ≡ events_in item classes limit facts

abbrev pub SameFactsJudgeAlike : Type 0
SameFactsJudgeAlike =
    (item : Equipment) (facts other : List Entry) → HasSameFacts item.component facts other → IsJudgedAlike item facts other

-- both lists also enter the same for its process unit
pub record HasSameLists (number unit : ℕ) (facts other : List Entry) : Type 0 where
  pub same : HasSameFacts number facts other
  pub of_unit : of_unit unit other ≡ of_unit unit facts

-- two lists of facts agree on a component: on its entry, events and tags, on what it adds to a quarter and to a report, and on its duties
-- for any startup of its process unit and any skipped quarters
pub record IsKnownAlike (item : Equipment) (facts other : List Entry) : Type 0 where
  pub equipment : equipment_of item.component other ≡ equipment_of item.component facts
  pub known : known_of other item ≡ known_of facts item
  pub sheet : sheet_of (known_of other item) ≡ sheet_of (known_of facts item)
  pub mark : (startup t quarter : ℕ) → mark_in startup t quarter (known_of other item) ≡ mark_in startup t quarter (known_of facts item)
  pub duties : (startup t : ℕ) (skipped : List Bool)
      → due_list startup t skipped (known_of other item ∷ []) ≡ due_list startup t skipped (known_of facts item ∷ [])

abbrev pub SameListsKnowAlike : Type 0
SameListsKnowAlike =
    (item : Equipment) (facts other : List Entry) → HasSameLists item.component item.unit facts other → IsKnownAlike item facts other

-- ---- on a day

-- a component on a day, by the facts and the register up to it, has the classes, events and shutdowns from all facts, up to the day
abbrev pub KnownUpToADay : Type 0
KnownUpToADay =
    (t : ℕ) (item : Equipment) (facts : List Entry)
    → known_of (up_to t facts) (item_on t item)
    ≡ known_with (item_on t item) (filter (λ entered. nat_le entered.0.day t) (classes_of item.component facts))
    (events_to t (events_in item (classes_of item.component facts) (limit_on item (classes_of item.component facts)) facts))
    (of_unit_to t (of_unit item.unit facts))
