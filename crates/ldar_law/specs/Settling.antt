-- What settles a leak (40 CFR 60.481a "repaired", 60.482-9a(f)). Events are in key order, so the events between two others happened between
-- them.
use Rattle.std.specs.Prelude.{◌+◌, Bool, true, false, not, ◌&&◌, ◌||◌, nat_eq, nat_le, List}
use Rattle.std.specs.List.{list_any}
use Rattle.list_words.specs.Words.{somewhere}
use Rattle.ldar_days.specs.Calendar.{month_of}
use Rattle.fact_kinds.specs.declared.class.Kind.{Kind}
use Rattle.fact_kinds.specs.declared.class.Kind.TheVariants.{Valve, Pump}
use Rattle.ldar_law.specs.declared.event.Event.{Event}
use Rattle.ldar_law.specs.declared.numbers.TheConstants.{REPAIR_DAYS}
use Rattle.ldar_law.specs.Happenings.{is_leak, is_reading_or_drip, is_look, is_sensor, is_below}
use Rattle.ldar_law.specs.Happenings.{is_dry, is_attempt, is_complete, delays_with_reading, is_retire}

-- a valve or a pump
abbrev pub is_valve_or_pump : Kind → Bool
is_valve_or_pump Valve = true
is_valve_or_pump Pump = true
is_valve_or_pump _ = false

-- some attempt is between, and no leak is between the attempt and the event that settles
abbrev pub is_attempted : List Event → Bool
is_attempted between = somewhere (λ _ attempt after. is_attempt attempt.what && not (list_any (λ x. is_leak x.what) after)) between

-- some delay of ground (a), (c), (d) or (e) is between, at most fifteen days after the leak
abbrev pub has_delay_between : Event → List Event → Bool
has_delay_between leak between = list_any (λ x. delays_with_reading x.what && nat_le x.key.day (leak.key.day + REPAIR_DAYS)) between

-- some counting reading below the leak definition is between, in the month before the later one, and no leak is after it
abbrev pub was_below : List Event → Event → Bool
was_below between later =
    somewhere (λ _ reading after. is_below reading.what
    && nat_eq (month_of reading.key.day + 1) (month_of later.key.day)
    && not (list_any (λ x. is_leak x.what) after)) between

-- a reading or a drip is settled by a counting reading below the leak definition, after an attempt
abbrev pub settles_by_reading : Event → List Event → Event → Bool
settles_by_reading leak between later = is_reading_or_drip leak.what && is_below later.what && is_attempted between

-- a drip is settled by a dry visual inspection, after an attempt
abbrev pub settles_by_dry_look : Event → List Event → Event → Bool
settles_by_dry_look leak between later = is_look leak.what && is_dry later.what && is_attempted between

-- a sensor's leak is settled by a complete attempt
abbrev pub settles_by_complete_attempt : Event → Event → Bool
settles_by_complete_attempt leak later = is_sensor leak.what && is_complete later.what

-- 40 CFR 60.482-9a(f): a delayed leak of a valve or pump is settled by readings below the leak definition in two months in a row
abbrev pub settles_by_two_readings : Kind → Event → List Event → Event → Bool
settles_by_two_readings kind leak between later =
    is_valve_or_pump kind && is_below later.what && has_delay_between leak between && was_below between later

-- a leak of any kind is settled when the component goes out of service (our own rule)
abbrev pub settles_by_retiring : Event → Bool
settles_by_retiring later = is_retire later.what

-- the later event settles the leak, with these events between the two
abbrev pub settles : Kind → Event → List Event → Event → Bool
settles kind leak between later =
    settles_by_reading leak between later
    || settles_by_dry_look leak between later
    || settles_by_complete_attempt leak later
    || settles_by_two_readings kind leak between later
    || settles_by_retiring later

-- some event after the leak settles it
abbrev pub is_settled : Kind → Event → List Event → Bool
is_settled kind leak after = somewhere (λ between later _. settles kind leak between later) after

-- no event after some leak settles it
abbrev pub is_unsettled : Kind → List Event → Bool
is_unsettled kind events = somewhere (λ _ leak after. is_leak leak.what && not (is_settled kind leak after)) events
