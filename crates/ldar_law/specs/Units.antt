-- A process unit by the facts up to a view day: its components with their events and tags, and the unit's lists.
use Rattle.std.specs.Prelude.{ℕ, ◌-◌, Bool, Option, option_map, unwrap_or, List, filter, filter_map, flat_map, map}
use Rattle.list_words.specs.Ranges.{from_to}
use Rattle.ldar_days.specs.Calendar.{month_of}
use Rattle.ldar_days.specs.Quarters.{quarter_of}
use Rattle.fact_kinds.specs.declared.class.Class.{Class}
use Rattle.fact_kinds.specs.declared.key.Key.{Key}
use Rattle.fact_kinds.specs.Facts.{Entry}
use Rattle.ldar_law.specs.declared.delay.DelayLine.{DelayLine}
use Rattle.ldar_law.specs.declared.duty.Duty.{Duty}
use Rattle.ldar_law.specs.declared.election.ElectionEntry.{ElectionEntry}
use Rattle.ldar_law.specs.declared.equipment.Equipment.{Equipment}
use Rattle.ldar_law.specs.declared.event.Event.{Event}
use Rattle.ldar_law.specs.declared.history.History.{History}
use Rattle.ldar_law.specs.declared.of_unit.OfUnit.{OfUnit}
use Rattle.ldar_law.specs.declared.route.Route.{Route}
use Rattle.ldar_law.specs.declared.tag.Tag.{Tag}
use Rattle.ldar_law.specs.declared.tally.Mark.{Mark}
use Rattle.ldar_law.specs.declared.tally.Tally.{Tally}
use Rattle.ldar_law.specs.declared.unit_entry.UnitEntry.{UnitEntry}
use Rattle.ldar_law.specs.Duties.{duties_of}
use Rattle.ldar_law.specs.Equipment.{equipment_of, classes_of, members_of, elections_of, of_unit}
use Rattle.ldar_law.specs.Events.{events_in}
use Rattle.ldar_law.specs.Force.{limit_on}
use Rattle.ldar_law.specs.Percent.{mark_of, tally_of, has_delay_on, judging_day}
use Rattle.ldar_law.specs.Routes.{routes_of}
use Rattle.ldar_law.specs.Skips.{is_skipped, skipped_to}
use Rattle.ldar_law.specs.Tags.{tags_of, is_shown, delay_lines}

-- a component with its classes, events and tags
pub record Known : Type 0 where
  pub item : Equipment
  pub classes : List (Key × Class)
  pub events : List Event
  pub tags : List Tag

-- a component with these classes and events, and what the facts enter for its process unit
abbrev pub known_with : Equipment → List (Key × Class) → List Event → OfUnit → Known
known_with item classes events unit =
    record { item = item; classes = classes; events = events; tags = tags_of item.component item.kind events unit.stops }

-- a component from the facts in key order; its events are judged by its leak definition of each day
abbrev pub known_of : List Entry → Equipment → Known
known_of facts item =
    let classes = classes_of item.component facts in
    known_with item classes (events_in item classes (limit_on item classes) facts) (of_unit item.unit facts)

-- a component with its judged events, by the facts in key order; none if no fact enters it
abbrev pub history_of_component : ℕ → List Entry → Option History
history_of_component number facts = option_map (λ item. record { equipment = item; events = (known_of facts item).events }) (equipment_of number facts)

-- the components of a unit, ascending by number
abbrev pub components_of : ℕ → List Entry → List Known
components_of unit facts = filter_map (λ number. option_map (known_of facts) (equipment_of number facts)) (members_of unit facts)

-- ---- by the components of a unit, on a view day

-- all tags, by component and detection
abbrev pub all_tags : List Known → List Tag
all_tags components = flat_map (λ c. c.tags) components

-- the tags that are not closed, or were closed at most 366 days before
abbrev pub tag_list : ℕ → List Known → List Tag
tag_list day components = filter (is_shown day) (all_tags components)

-- the lines of open tags whose repair is delayed
abbrev pub delay_list : List Known → List DelayLine
delay_list components = delay_lines (all_tags components)

-- what a component adds to the counts of a quarter
abbrev pub mark_in : ℕ → ℕ → ℕ → Known → Mark
mark_in startup day quarter c =
    mark_of c.item c.classes startup c.events (has_delay_on (judging_day startup quarter day) c.tags) quarter day

-- the counts of a quarter
abbrev pub tally_in : ℕ → ℕ → List Known → ℕ → Tally
tally_in startup day components quarter = tally_of (map (mark_in startup day quarter) components)

-- the counts of the quarters from quarter 1 to this one
abbrev pub tallies_to : ℕ → ℕ → List Known → ℕ → List Tally
tallies_to startup day components quarter = map (tally_in startup day components) (from_to 1 quarter)

-- the number of the quarter that contains the day; 0 before quarter 1
abbrev pub quarter_at : ℕ → ℕ → ℕ
quarter_at startup day = unwrap_or (quarter_of startup (month_of day)) 0

-- a quarter of the unit is skipped
abbrev pub is_quarter_skipped : ℕ → ℕ → List Known → List ElectionEntry → ℕ → Bool
is_quarter_skipped startup day components elections quarter =
    is_skipped (tallies_to startup day components (quarter - 1)) elections startup quarter

-- which quarters are skipped, from quarter 1 to the one of the day
abbrev pub skipped_on : ℕ → ℕ → List Known → List ElectionEntry → List Bool
skipped_on startup day components elections =
    skipped_to (tallies_to startup day components (quarter_at startup day - 1)) elections startup (quarter_at startup day)

-- the duties of the components, in order of component, cause, due day and event
abbrev pub due_list : ℕ → ℕ → List Bool → List Known → List Duty
due_list startup day skipped components = flat_map (λ c. duties_of c.item c.classes startup c.events skipped day) components

-- ---- by the facts up to a view day

-- the tags of a unit
abbrev pub tags_of_unit : UnitEntry → ℕ → List Entry → List Tag
tags_of_unit unit day facts = tag_list day (components_of unit.unit facts)

-- the lines of delayed repairs of a unit
abbrev pub delays_of_unit : UnitEntry → List Entry → List DelayLine
delays_of_unit unit facts = delay_list (components_of unit.unit facts)

-- the counts of a quarter of a unit
abbrev pub tally_of_unit : UnitEntry → ℕ → List Entry → ℕ → Tally
tally_of_unit unit day facts quarter = tally_in unit.startup day (components_of unit.unit facts) quarter

-- a quarter of a unit is skipped
abbrev pub is_skipped_of_unit : UnitEntry → ℕ → List Entry → ℕ → Bool
is_skipped_of_unit unit day facts quarter =
    is_quarter_skipped unit.startup day (components_of unit.unit facts) (elections_of unit.unit facts) quarter

-- the duties of some components, with the elections of their unit
abbrev pub duties_by : UnitEntry → ℕ → List ElectionEntry → List Known → List Duty
duties_by unit day elections components = due_list unit.startup day (skipped_on unit.startup day components elections) components

-- the duties of a unit
abbrev pub duties_of_unit : UnitEntry → ℕ → List Entry → List Duty
duties_of_unit unit day facts = duties_by unit day (elections_of unit.unit facts) (components_of unit.unit facts)

-- the routes to the components of a unit at which something must be done
abbrev pub routes_of_unit : UnitEntry → ℕ → List Entry → ℕ → List Route
routes_of_unit unit day facts stops = routes_of (duties_of_unit unit day facts) stops
