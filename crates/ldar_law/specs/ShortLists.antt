-- Short names for examples: duties, quarters, routes and histories.
use Rattle.std.specs.Prelude.{ℕ, Bool, true, false, nat_eq, Some, None, List, [], ◌∷◌, replicate, filter}
use Rattle.fact_kinds.specs.declared.batch.Batch.{Batch}
use Rattle.fact_kinds.specs.declared.body.FactBody.{FactBody}
use Rattle.fact_kinds.specs.declared.body.FactBody.TheVariants.{Unit as UnitFact, Component as ComponentFact}
use Rattle.fact_kinds.specs.declared.body.FactBody.TheVariants.{Attempt as AttemptFact, Calibration, Precision, Reading}
use Rattle.fact_kinds.specs.declared.body.Purpose.TheVariants.{Routine}
use Rattle.fact_kinds.specs.declared.class.Class.{Class}
use Rattle.fact_kinds.specs.declared.class.Designation.TheVariants.{Plain}
use Rattle.fact_kinds.specs.declared.class.Kind.TheVariants.{Valve}
use Rattle.fact_kinds.specs.declared.class.Service.TheVariants.{Gas}
use Rattle.fact_kinds.specs.declared.key.Key.{Key}
use Rattle.fact_kinds.specs.Facts.{facts_to}
use Rattle.fact_kinds.specs.Stated.{Stated}
use Rattle.ldar_law.specs.declared.duty.Duty.{Duty}
use Rattle.ldar_law.specs.declared.election.ElectionEntry.{ElectionEntry}
use Rattle.ldar_law.specs.declared.equipment.Equipment.{Equipment}
use Rattle.ldar_law.specs.declared.event.Event.{Event}
use Rattle.ldar_law.specs.declared.route.Route.{Route}
use Rattle.ldar_law.specs.declared.tag.Tag.{Tag}
use Rattle.ldar_law.specs.declared.tally.Mark.{Mark}
use Rattle.ldar_law.specs.declared.tally.Tally.{Tally}
use Rattle.ldar_law.specs.declared.unit_entry.UnitEntry.{UnitEntry}
use Rattle.ldar_law.specs.Duties.{duties_of}
use Rattle.ldar_law.specs.Tags.{tags_of}
use Rattle.ldar_law.specs.Units.{Known, mark_in, tags_of_unit}
use Rattle.ldar_law.specs.Short.{date, key, class, valve}

-- ---- duties

-- a duty that is not met
abbrev pub owes : ℕ → ℕ → ℕ → Duty
owes component cause due = record { component = component; cause = cause; due = due; met = None }

-- a duty that was met on a day
abbrev pub has_done : ℕ → ℕ → ℕ → ℕ → Duty
has_done component cause due day = record { component = component; cause = cause; due = due; met = Some (key day 600) }

-- the duties of a cause
abbrev pub of_cause : ℕ → List Duty → List Duty
of_cause cause duties = filter (λ d. nat_eq d.cause cause) duties

-- the duties on a day of a component of unit 1, which started up on 2020-01-15 and skips no quarter
abbrev pub duties_on : ℕ → Equipment → List Event → List Duty
duties_on day item events = duties_of item [] (date 2020 1 15) events [] day

-- the duties on a day of a component of unit 1, with classes entered for the component
abbrev pub duties_with : ℕ → Equipment → List (Key × Class) → List Event → List Duty
duties_with day item classes events = duties_of item classes (date 2020 1 15) events [] day

-- the duties on a day of valve 30, which begins with the startup of its unit on 2024-01-15
abbrev pub duties_of_30 : List Event → List Bool → ℕ → List Duty
duties_of_30 events skipped day = duties_of (valve 30 (date 2024 1 15)) [] (date 2024 1 15) events skipped day

-- ---- quarters and routes

-- this many good quarters
abbrev pub good_quarters : ℕ → List Tally
good_quarters n = replicate n (record { leaking = 0; monitored = 10 })

-- this many quarters that are not good
abbrev pub bad_quarters : ℕ → List Tally
bad_quarters n = replicate n (record { leaking = 1; monitored = 10 })

-- an election of a mode from a day on
abbrev pub elects : ℕ → ℕ → ElectionEntry
elects day mode = record { key = key day 0; mode = mode }

-- the counts of a quarter
abbrev pub tally : ℕ → ℕ → Tally
tally leaking monitored = record { leaking = leaking; monitored = monitored }

-- a valve that is found leaking
abbrev pub found : Mark
found = record { leaking = true; monitored = true }

-- a valve that is monitored and does not leak
abbrev pub clean : Mark
clean = record { leaking = false; monitored = true }

-- a component that is not counted
abbrev pub uncounted : Mark
uncounted = record { leaking = false; monitored = false }

-- a component with some classes and events, in a unit without shutdowns
abbrev pub known : Equipment → List (Key × Class) → List Event → Known
known item classes events = record {
  item = item;
  classes = classes;
  events = events;
  tags = tags_of item.component item.kind events [];
}

-- what a component of unit 1 adds to the counts of a quarter, as of a day
abbrev pub mark_with : ℕ → ℕ → Equipment → List (Key × Class) → List Event → Mark
mark_with day quarter item classes events = mark_in (date 2020 1 15) day quarter (known item classes events)

-- what a component of unit 1 without entered classes adds to the counts of a quarter, as of a day
abbrev pub mark_on : ℕ → ℕ → Equipment → List Event → Mark
mark_on day quarter item events = mark_with day quarter item [] events

-- a route of these components
abbrev pub route : List ℕ → Route
route stops = record { stops = stops }

-- ---- histories

-- a fact as it is in a batch
abbrev pub stated : ℕ → ℕ → FactBody → Stated
stated day minute body = record { day = day; minute = minute; body = body }

-- a batch of some facts
abbrev pub batch : ℕ → ℕ → List Stated → Batch
batch handheld number facts = record { handheld = handheld; number = number; facts = facts }

-- unit 1, which starts up on 2020-01-15, with valve 1
abbrev pub register_of_1 : Batch
register_of_1 = batch 0 1 (
    stated (date 2020 1 15) 0 (UnitFact 1 false (67 ∷ []))
    ∷ stated (date 2020 1 15) 0 (ComponentFact 1 1 Valve false false (class Gas Plain)) ∷ [])

-- instrument 1 passes its precision test on 2024-01-02
abbrev pub precision_of_1 : Batch
precision_of_1 = batch 1 1 (stated (date 2024 1 2) 0 (Precision 1 500 (500, 500, 500)) ∷ [])

-- a batch of one calibration of instrument 1, at minute 300
abbrev pub calibration : ℕ → ℕ → Batch
calibration number day = batch 1 number (stated day 300 (Calibration 1 500) ∷ [])

-- a batch of one routine reading at a component, at minute 615
abbrev pub reading : ℕ → ℕ → ℕ → ℕ → Batch
reading number day component ppm = batch 1 number (stated day 615 (Reading component 1 1 Routine ppm 0) ∷ [])

-- a batch of one attempt, at minute 620
abbrev pub attempt : ℕ → ℕ → ℕ → Batch
attempt number day component = batch 1 number (stated day 620 (AttemptFact component false) ∷ [])

-- unit 1 in the register
abbrev pub unit_1 : UnitEntry
unit_1 = record { unit = 1; name = 67 ∷ []; startup = date 2020 1 15; older = false }

-- the tags of unit 1 on a day, after a history
abbrev pub tags_on : ℕ → List Batch → List Tag
tags_on day history = tags_of_unit unit_1 day (facts_to day history)
