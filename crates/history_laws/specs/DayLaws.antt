-- Laws about the facts up to a day and all facts: the register, readings and events.
use Rattle.std.specs.Prelude.{◌≡◌, ℕ, ◌≤◌, Bool, false, not, nat_le, Option, Some, None, option_map, option_and_then, if◌then◌else◌}
use Rattle.std.specs.Prelude.{List, [], ◌∷◌, ◌++◌, filter, filter_map}
use Rattle.std.specs.Prelude.{take_while}
use Rattle.std.specs.List.{AllByRecursion}
use Rattle.list_words.specs.Order.{Ascends}
use Rattle.fact_kinds.specs.declared.batch.Batch.{Batch}
use Rattle.fact_kinds.specs.declared.class.Class.{Class}
use Rattle.fact_kinds.specs.declared.key.Key.{Key}
use Rattle.fact_kinds.specs.Facts.{Entry, goes_first, facts_of}
use Rattle.ldar_law.specs.declared.equipment.Equipment.{Equipment}
use Rattle.ldar_law.specs.declared.event.Event.{Event}
use Rattle.ldar_law.specs.declared.of_unit.OfUnit.{OfUnit}
use Rattle.ldar_law.specs.declared.unit_entry.UnitEntry.{UnitEntry}
use Rattle.ldar_law.specs.Equipment.{retired_on, equipment_of, classes_of, unit_entry_of, members_of, elections_of, stops_of}
use Rattle.ldar_law.specs.Events.{events_in}
use Rattle.ldar_law.specs.Fitness.{fitness_of}
use Rattle.ldar_law.specs.Force.{class_on, is_in_service, limit_on}
use Rattle.ldar_law.specs.Units.{known_of, components_of}
use Rattle.history_laws.specs.RulyLaws.{IsEachOnce}
pub use Rattle.ldar_law.specs.SpansByDay.{if_come, events_to}

-- the facts with a day of at most t
abbrev pub up_to : ℕ → List Entry → List Entry
up_to t facts = filter (λ e. nat_le e.0.day t) facts

-- ---- facts in order

-- no fact is before an earlier one in the list; a key may occur twice
abbrev pub AreInOrder : List Entry → Type 0
AreInOrder [] = Unit {0}
AreInOrder (e ∷ facts) = AllByRecursion (λ x. goes_first x e ≡ false) facts × AreInOrder facts

-- the facts of a history are in order
abbrev pub HistoryIsInOrder : Type 0
HistoryIsInOrder = (history : List Batch) → AreInOrder (facts_of history)

-- ascending facts are in order
abbrev pub AscendingAreInOrder : Type 0
AscendingAreInOrder = (facts : List Entry) → Ascends goes_first facts → AreInOrder facts

-- a part of facts in order is in order
abbrev pub PartIsInOrder : Type 0
PartIsInOrder = (facts : List Entry) (test : Entry → Bool) → AreInOrder facts → AreInOrder (filter test facts)

-- taking a part and taking the facts up to a day can be swapped
abbrev pub PartUpToADay : Type 0
PartUpToADay = (t : ℕ) (facts : List Entry) (test : Entry → Bool) → filter test (up_to t facts) ≡ up_to t (filter test facts)

-- facts in order are those up to a day, followed by those of later days
pub record AreCutAt (t : ℕ) (facts : List Entry) : Type 0 where
  pub front : up_to t facts ≡ take_while (λ e. nat_le e.0.day t) facts
  pub whole : up_to t facts ++ filter (λ e. not (nat_le e.0.day t)) facts ≡ facts

abbrev pub FactsAreCut : Type 0
FactsAreCut = (t : ℕ) (facts : List Entry) → AreInOrder facts → AreCutAt t facts

-- ---- the register

-- the component as known on a day, without a later retirement
abbrev pub item_on : ℕ → Equipment → Equipment
item_on t item = record item { retired = if_come t item.retired }

-- the component, if it has begun by the day
abbrev pub if_begun : ℕ → Equipment → Option Equipment
if_begun t item = if nat_le item.begin t then Some (item_on t item) else None

-- the process unit, if it has started up by the day
abbrev pub if_started : ℕ → UnitEntry → Option UnitEntry
if_started t unit = if nat_le unit.startup t then Some unit else None

-- the register's component by the facts up to a day: the component if it has begun, no later retirement, and the classes entered by then
pub record ComponentUpTo (t number : ℕ) (facts : List Entry) : Type 0 where
  pub retired : retired_on number (up_to t facts) ≡ if_come t (retired_on number facts)
  pub equipment : equipment_of number (up_to t facts) ≡ option_and_then (if_begun t) (equipment_of number facts)
  pub classes : classes_of number (up_to t facts) ≡ filter (λ entered. nat_le entered.0.day t) (classes_of number facts)

abbrev pub ComponentsUpToADay : Type 0
ComponentsUpToADay = (t number : ℕ) (facts : List Entry) → AreInOrder facts → ComponentUpTo t number facts

-- the register's process unit by the facts up to a day: the unit if it has started up, and the elections and shutdowns that begin by then
pub record UnitUpTo (t number : ℕ) (facts : List Entry) : Type 0 where
  pub entry : unit_entry_of number (up_to t facts) ≡ option_and_then (if_started t) (unit_entry_of number facts)
  pub elections : elections_of number (up_to t facts) ≡ filter (λ election. nat_le election.key.day t) (elections_of number facts)
  pub stops : stops_of number (up_to t facts) ≡ filter (λ stop. nat_le stop.first t) (stops_of number facts)

-- what is entered for a process unit, up to a day
abbrev pub of_unit_to : ℕ → OfUnit → OfUnit
of_unit_to t unit = record { stops = filter (λ stop. nat_le stop.first t) unit.stops }

abbrev pub UnitsUpToADay : Type 0
UnitsUpToADay = (t number : ℕ) (facts : List Entry) → AreInOrder facts → UnitUpTo t number facts

-- on a day up to the view day, a component has the same class and service by the facts up to the view day as by all
pub record StandsAlike (t day : ℕ) (item : Equipment) (classes : List (Key × Class)) : Type 0 where
  pub class : class_on (item_on t item) (filter (λ entered. nat_le entered.0.day t) classes) day ≡ class_on item classes day
  pub service : is_in_service (item_on t item) day ≡ is_in_service item day

abbrev pub StandingForgetsLaterDays : Type 0
StandingForgetsLaterDays = (t day : ℕ) (item : Equipment) (classes : List (Key × Class)) → day ≤ t → StandsAlike t day item classes

-- the component has begun by the day
abbrev pub has_begun : ℕ → List Entry → ℕ → Bool
has_begun t facts number = elim (equipment_of number facts) [ None ↦ false | Some item ↦ nat_le item.begin t ]

-- if each component is entered only once, the members by the facts up to a day are those that have begun
abbrev pub MembersUpToADay : Type 0
MembersUpToADay =
    (t unit : ℕ) (facts : List Entry) → IsEachOnce facts → members_of unit (up_to t facts) ≡ filter (has_begun t facts) (members_of unit facts)

-- the components of a process unit on a day can be found among the members by all facts: those that have not begun are skipped
abbrev pub ComponentsAreOfAllMembers : Type 0
ComponentsAreOfAllMembers =
    (t unit : ℕ) (facts : List Entry) → AreInOrder facts → IsEachOnce facts
    → components_of unit (up_to t facts)
    ≡ filter_map (λ number. option_map (known_of (up_to t facts)) (equipment_of number (up_to t facts))) (members_of unit facts)

-- ---- readings and events

-- a reading up to the view day has the same fitness by the facts up to the view day as by all: no calibration, precision test or drift
-- assessment of a later day matters to it
abbrev pub FitnessForgetsLaterDays : Type 0
FitnessForgetsLaterDays =
    (t : ℕ) (facts : List Entry) (limit : ℕ) (key : Key) (instrument ppm : ℕ) → key.day ≤ t
    → fitness_of (up_to t facts) limit key instrument ppm ≡ fitness_of facts limit key instrument ppm

-- with one register, the events from the facts up to a day are the events up to that day from all facts
abbrev pub EventsUpToADay : Type 0
EventsUpToADay =
    (t : ℕ) (item : Equipment) (classes : List (Key × Class)) (limit : ℕ → ℕ) (facts : List Entry)
    → events_in item classes limit (up_to t facts) ≡ events_to t (events_in item classes limit facts)

-- two leak definitions agree on the days up to t
abbrev pub AgreeUpTo : ℕ → (ℕ → ℕ) → (ℕ → ℕ) → Type 0
AgreeUpTo t other limit = (day : ℕ) → day ≤ t → other day ≡ limit day

-- with the register of each, the same holds even if the class changes or the component retires later; the leak definitions must agree up to
-- the day
abbrev pub EventsByOwnRegister : Type 0
EventsByOwnRegister =
    (t : ℕ) (item : Equipment) (limit other : ℕ → ℕ) (facts : List Entry) → AgreeUpTo t other limit
    → events_in (item_on t item) (classes_of item.component (up_to t facts)) other (up_to t facts)
    ≡ events_to t (events_in item (classes_of item.component facts) limit facts)

-- the leak definitions of the rule agree, each with its own register
abbrev pub LimitsAgree : Type 0
LimitsAgree =
    (t : ℕ) (item : Equipment) (facts : List Entry)
    → AgreeUpTo t (limit_on (item_on t item) (classes_of item.component (up_to t facts))) (limit_on item (classes_of item.component facts))

-- events in key order are those up to a day, followed by those of later days
pub record IsCutAt (t : ℕ) (events : List Event) : Type 0 where
  pub front : events_to t events ≡ take_while (λ e. nat_le e.key.day t) events
  pub whole : events_to t events ++ filter (λ e. not (nat_le e.key.day t)) events ≡ events

abbrev pub EventsAreCut : Type 0
EventsAreCut =
    (t : ℕ) (item : Equipment) (classes : List (Key × Class)) (limit : ℕ → ℕ) (facts : List Entry) → Ascends goes_first facts
    → IsCutAt t (events_in item classes limit facts)
