-- What is known of a component on a day, as the law has it and as its summary has it.
use Rattle.std.specs.Prelude.{◌≡◌, ℕ, Option, Some, None, List, filter, map, nat_le}
use Rattle.std.specs.List.{AllByRecursion}
use Rattle.list_words.specs.Order.{Ascends}
use Rattle.fact_kinds.specs.Facts.{Entry, is_earlier}
use Rattle.history_laws.specs.DayLaws.{events_to, if_begun}
use Rattle.ldar_law.specs.declared.delay.Stop.{Stop}
use Rattle.ldar_law.specs.Equipment.{of_unit}
use Rattle.ldar_law.specs.Spans.{spans_of}
use Rattle.ldar_law.specs.Units.{Known, known_with}
use Rattle.unit_summaries.specs.declared.known.KnownOn.{KnownOn}
use Rattle.unit_summaries.specs.declared.summary.Summary.{Summary}

-- with its tags, by what the facts enter for its process unit
abbrev pub known_by : List Entry → KnownOn → Known
known_by facts k = known_with k.item k.classes.now k.events.now (of_unit k.item.unit facts)

-- .. by the shutdowns of its process unit
abbrev pub in_law : List Stop → KnownOn → Known
in_law stops c = known_with c.item c.classes.now c.events.now (record { stops = stops })

-- .. of each of some components
abbrev pub all_in_law : List Stop → List KnownOn → List Known
all_in_law stops components = map (in_law stops) components

-- the classes and the events of a component are in key order, and its events and tags are cut from all of them
pub record IsInOrder (c : KnownOn) : Type 0 where
  pub classes : Ascends (λ a b. is_earlier a.0 b.0) c.classes.now
  pub events : Ascends (λ a b. is_earlier a.key b.key) c.events.now
  pub all_events : Ascends (λ a b. is_earlier a.key b.key) c.all_events.now
  pub cut : c.events.now ≡ events_to c.day c.all_events.now
  pub spans : c.spans.now ≡ spans_of c.item.kind c.all_events.now

-- .. of each of some components
abbrev pub AreInOrder : List KnownOn → Type 0
AreInOrder components = AllByRecursion IsInOrder components

-- the classes and the events of a summary are in key order, and its tags are those of its events
pub record IsOrderly (s : Summary) : Type 0 where
  pub classes : Ascends (λ a b. is_earlier a.0 b.0) s.classes
  pub events : Ascends (λ a b. is_earlier a.key b.key) s.events
  pub spans : s.spans ≡ spans_of s.item.kind s.events

-- this is known of a component on a day by its summary
pub record IsOfSummary (t : ℕ) (s : Summary) (k : KnownOn) : Type 0 where
  pub item : if_begun t s.item ≡ Some k.item
  pub classes : k.classes.now ≡ filter (λ entered. nat_le entered.0.day t) s.classes
  pub events : k.events.now ≡ events_to t s.events
  pub day : k.day ≡ t
  pub all_events : k.all_events.now ≡ s.events
  pub spans : k.spans.now ≡ s.spans

-- .. or nothing, before the component begins
abbrev pub IsKnownFrom : ℕ → Summary → Option KnownOn → Type 0
IsKnownFrom day s None = if_begun day s.item ≡ None
IsKnownFrom day s (Some k) = IsOfSummary day s k
