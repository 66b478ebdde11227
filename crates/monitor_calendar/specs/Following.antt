-- Duties after drips, a pressure release or evidence of a potential leak.
use Rattle.std.specs.Prelude.{◌≡◌, ℕ, ◌+◌, ◌<◌, ◌≤◌, Bool, true, false, not, ◌&&◌, ◌||◌, nat_le}
use Rattle.std.specs.Prelude.{if◌then◌else◌, Option, Some, None, List, length, slice_get, slice_index_or}
use Rattle.ldar_days.specs.Calendar.{end_by}
use Rattle.fact_kinds.specs.declared.key.Key.{Key}
use Rattle.ldar_law.specs.declared.causes.TheConstants.{CAUSE_DRIP, CAUSE_RELEASE, CAUSE_EVIDENCE}
use Rattle.ldar_law.specs.declared.duty.Duty.{Duty}
use Rattle.ldar_law.specs.declared.event.Event.{Event}
use Rattle.ldar_law.specs.declared.event.Happening.{Happening}
use Rattle.ldar_law.specs.Duties as law
use Rattle.ldar_law.specs.Force.{is_in_service}
use Rattle.ldar_law.specs.Happenings as happenings
use Rattle.ldar_law.specs.Standing as standing
use Rattle.monitor_calendar.specs.Causes as causes
use Rattle.monitor_calendar.specs.Dripping.{TellsOfDrips}
use Rattle.monitor_calendar.specs.declared.after_event.After.{After}
use Rattle.monitor_calendar.specs.declared.after_event.After.TheVariants.{Drips, Release, Evidence}
use Rattle.monitor_calendar.specs.declared.asked.Asked.{Asked}
use Rattle.monitor_calendar.specs.declared.drips.PastDrips.{PastDrips}

-- the cause of the duty
abbrev pub cause_of : After → ℕ
cause_of Drips = CAUSE_DRIP
cause_of Release = CAUSE_RELEASE
cause_of Evidence = CAUSE_EVIDENCE

-- a later event meets it, if it comes in time
abbrev pub meets : After → Happening → Bool
meets Drips what = happenings.is_counting what || happenings.is_designating what
meets Release what = happenings.is_near_background what
meets Evidence what = happenings.is_counting what || happenings.is_evidence_gone what

-- the place of the first event from `from` on that would meet it, or the number of events
pub record IsNext (after : After) (events : List Event) (from next : ℕ) : Type 0 where
  pub behind : from ≤ next
  pub within : next ≤ length events
  pub none : (k : ℕ) (d : Event) → from ≤ k → k < next → meets after (slice_index_or events k d).what ≡ false
  pub here : (d : Event) → next < length events → meets after (slice_index_or events next d).what ≡ true

-- no event from one place up to another would meet it
pub record NoneMeets (after : After) (events : List Event) (from to : ℕ) : Type 0 where
  pub within : to ≤ length events
  pub none : (k : ℕ) (d : Event) → from ≤ k → k < to → meets after (slice_index_or events k d).what ≡ false

-- the event, if it exists and its day is at most this one
abbrev pub comes_by : Option Event → ℕ → Option Event
comes_by None due = None
comes_by (Some e) due = if nat_le e.key.day due then Some e else None

-- the key, if it exists and its day is at most this one
abbrev pub key_by : Option Key → ℕ → Option Key
key_by None due = None
key_by (Some key) due = if nat_le key.day due then Some key else None

-- the event at a place
abbrev pub event_by : List Event → ℕ → ℕ → Option Event
event_by events place due = comes_by (slice_get events place) due

module _ (asked : Asked) where
  -- the component is a relief device in service on the day
  abbrev pub is_served_relief : ℕ → Bool
  is_served_relief day = is_in_service asked.item.now day && standing.is_under_relief_rules asked.item.now asked.classes.now day

  -- the component is in heavy liquid service, and in service, on the day
  abbrev pub is_served_heavy_liquid : ℕ → Bool
  is_served_heavy_liquid day = is_in_service asked.item.now day && standing.is_under_heavy_liquid_rules asked.item.now asked.classes.now day

  -- the event leads to a duty; for drips, the flag is whether they repeat earlier ones
  abbrev pub is_asked_by : After → Bool → Event → Bool
  is_asked_by Drips is_repeated e =
      happenings.has_undesignated_drips e.what
      && law.is_weekly asked.item.now asked.classes.now asked.startup asked.events.now asked.skipped.now asked.day e.key.day && not is_repeated
  is_asked_by Release is_repeated e = happenings.is_release e.what && is_served_relief e.key.day
  is_asked_by Evidence is_repeated e = happenings.has_evidence e.what && is_served_heavy_liquid e.key.day

  -- the duty, if the first later event that would meet it is at this place
  abbrev pub after_by : After → Bool → Event → ℕ → Option Duty
  after_by after is_repeated e next =
      causes.duty asked (cause_of after) e.key.day (end_by (e.key.day + 5)) (is_asked_by after is_repeated e)
      (event_by asked.events.now next (end_by (e.key.day + 5)))

  -- the duty after an event, seen with the events before it and after it
  abbrev pub after_event : After → List Event → Event → List Event → Option Duty
  after_event Drips = law.drip asked.item.now asked.classes.now asked.startup asked.events.now asked.skipped.now asked.day
  after_event Release = law.release asked.item.now asked.classes.now asked.startup asked.events.now asked.skipped.now asked.day
  after_event Evidence = law.evidence asked.item.now asked.classes.now asked.startup asked.events.now asked.skipped.now asked.day

-- the summary has what a duty after drips needs to know about earlier events
abbrev pub TellsFor : After → PastDrips → List Event → Type 0
TellsFor Drips past events = TellsOfDrips past events
TellsFor _ past events = Unit {0}
