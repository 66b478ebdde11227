-- A summary of the unsettled leaks: for each kind of leak, what decides when it is settled.
use Rattle.std.specs.Prelude.{ℕ, ◌+◌, ◌-◌, Bool, true, false, not, ◌&&◌, ◌||◌, nat_eq, nat_le, if◌then◌else◌, Option, Some, None, is_some}
use Rattle.ldar_days.specs.Calendar.{month_of}
use Rattle.fact_kinds.specs.declared.class.Kind.{Kind}
use Rattle.ldar_law.specs.declared.event.Event.{Event}
use Rattle.ldar_law.specs.declared.event.Happening.{Happening}
use Rattle.ldar_law.specs.declared.numbers.TheConstants.{REPAIR_DAYS}
use Rattle.ldar_law.specs.Happenings.{is_leak, is_reading_or_drip, is_look, is_sensor, is_below}
use Rattle.ldar_law.specs.Happenings.{is_dry, is_attempt, is_complete, delays_with_reading, is_retire}
use Rattle.ldar_law.specs.Settling.{is_valve_or_pump}
use Rattle.leak_tags.specs.declared.below_months.BelowMonths.{BelowMonths}
use Rattle.leak_tags.specs.declared.leaks.Days.{Days}
use Rattle.leak_tags.specs.declared.leaks.Leaks.{Leaks}
use Rattle.leak_tags.specs.declared.open_leaks.OpenLeaks.{OpenLeaks}

-- ---- the leaks of one kind

-- no leaks
abbrev pub no_leaks : Leaks
no_leaks = record { delayed = false; waiting = None }

-- there is a leak
abbrev pub has_leaks : Leaks → Bool
has_leaks leaks = leaks.delayed || is_some leaks.waiting

-- a delay on this day is at most fifteen days after some waiting leak
abbrev pub reaches : Option Days → ℕ → Bool
reaches None day = false
reaches (Some days) day = nat_le day (days.last + REPAIR_DAYS)

-- a delay on this day is more than fifteen days after some waiting leak
abbrev pub misses : Option Days → ℕ → Bool
misses None day = false
misses (Some days) day = not (nat_le day (days.first + REPAIR_DAYS))

-- the leaks that keep waiting; no later delay reaches them
abbrev pub missed_by : Option Days → ℕ → Option Days
missed_by None day = None
missed_by (Some days) day = if nat_le day (days.first + REPAIR_DAYS) then None else Some (record { first = days.first; last = days.first })

-- the first day of the waiting leaks, with one more
abbrev pub first_with : Option Days → ℕ → ℕ
first_with None day = day
first_with (Some days) day = days.first

-- all of them are settled, or only the delayed ones
abbrev pub settled : Leaks → Bool → Bool → Leaks
settled leaks all late = if all then no_leaks else record { delayed = leaks.delayed && not late; waiting = leaks.waiting }

-- the leaks after a delay, if there is one
abbrev pub reached : Leaks → Bool → ℕ → Leaks
reached leaks delays day =
    if delays
    then record { delayed = leaks.delayed || reaches leaks.waiting day; waiting = missed_by leaks.waiting day }
    else leaks

-- the leaks with one more, if one is found
abbrev pub opened : Leaks → Bool → ℕ → Leaks
opened leaks opens day =
    if opens
    then record { delayed = leaks.delayed; waiting = Some (record { first = first_with leaks.waiting day; last = day }) }
    else leaks

-- the leaks after one more event
abbrev pub leaks_with : Leaks → Bool → Bool → Bool → Event → Leaks
leaks_with leaks all late opens e = opened (reached (settled leaks all late) (delays_with_reading e.what) e.key.day) opens e.key.day

-- ---- readings below the leak definition since the last leak

-- no such reading
abbrev pub no_months : BelowMonths
no_months = record { last = 0; before = false }

-- such a reading is in the month before this one, if none is in a month after this one
abbrev pub is_second : BelowMonths → ℕ → Bool
is_second below month = if nat_eq month below.last then below.before else nat_eq (month - 1) below.last

-- the months after one more event
abbrev pub months_with : BelowMonths → Event → BelowMonths
months_with below e =
    if is_leak e.what
    then no_months
    else if is_below e.what then record { last = month_of e.key.day; before = is_second below (month_of e.key.day) } else below

-- ---- all leaks

-- a reading
abbrev pub is_reading : Happening → Bool
is_reading what = is_reading_or_drip what && not (is_look what)

-- no events
abbrev pub none_open : OpenLeaks
none_open = record { readings = no_leaks; drips = no_leaks; sensors = no_leaks; attempted = false; below = no_months }

-- some leak is not settled
abbrev pub is_open : OpenLeaks → Bool
is_open leaks = has_leaks leaks.readings || has_leaks leaks.drips || has_leaks leaks.sensors

-- the event settles each reading that is a leak
abbrev pub settles_readings : OpenLeaks → Event → Bool
settles_readings leaks e = is_retire e.what || (is_below e.what && leaks.attempted)

-- the event settles each drip
abbrev pub settles_drips : OpenLeaks → Event → Bool
settles_drips leaks e = settles_readings leaks e || (is_dry e.what && leaks.attempted)

-- the event settles each leak of a sensor
abbrev pub settles_sensors : Event → Bool
settles_sensors e = is_retire e.what || is_complete e.what

-- the event settles each delayed leak, as the second of two readings
abbrev pub settles_delayed : Kind → OpenLeaks → Event → Bool
settles_delayed kind leaks e = is_valve_or_pump kind && is_below e.what && is_second leaks.below (month_of e.key.day)

-- the open leaks after one more event
abbrev pub with_event : Kind → OpenLeaks → Event → OpenLeaks
with_event kind leaks e = record {
  readings = leaks_with leaks.readings (settles_readings leaks e) (settles_delayed kind leaks e) (is_leak e.what && is_reading e.what) e;
  drips = leaks_with leaks.drips (settles_drips leaks e) (settles_delayed kind leaks e) (is_leak e.what && is_look e.what) e;
  sensors = leaks_with leaks.sensors (settles_sensors e) (settles_delayed kind leaks e) (is_leak e.what && is_sensor e.what) e;
  attempted = (not (is_leak e.what) && leaks.attempted) || is_attempt e.what;
  below = months_with leaks.below e;
}

-- ---- after an event of one kind

-- after a leak: attempts and readings before it settle nothing
abbrev pub anew : OpenLeaks → OpenLeaks
anew leaks = record { readings = leaks.readings; drips = leaks.drips; sensors = leaks.sensors; attempted = false; below = no_months }

-- after a reading below the leak definition
abbrev pub with_below : Kind → OpenLeaks → ℕ → OpenLeaks
with_below kind leaks day = record {
  readings = settled leaks.readings leaks.attempted (is_valve_or_pump kind && is_second leaks.below (month_of day));
  drips = settled leaks.drips leaks.attempted (is_valve_or_pump kind && is_second leaks.below (month_of day));
  sensors = settled leaks.sensors false (is_valve_or_pump kind && is_second leaks.below (month_of day));
  attempted = leaks.attempted;
  below = record { last = month_of day; before = is_second leaks.below (month_of day) };
}

-- after a reading that is a leak
abbrev pub with_reading_leak : OpenLeaks → ℕ → OpenLeaks
with_reading_leak leaks day = record {
  readings = opened leaks.readings true day;
  drips = leaks.drips;
  sensors = leaks.sensors;
  attempted = false;
  below = no_months;
}

-- after a reading
abbrev pub with_reading : Kind → OpenLeaks → Bool → Bool → ℕ → OpenLeaks
with_reading kind leaks below leak day =
    if leak
    then with_reading_leak (if below then with_below kind leaks day else leaks) day
    else (if below then with_below kind leaks day else leaks)

-- after a visual inspection that settles drips or none
abbrev pub with_dry : OpenLeaks → Bool → OpenLeaks
with_dry leaks dry = record {
  readings = leaks.readings;
  drips = settled leaks.drips (dry && leaks.attempted) false;
  sensors = leaks.sensors;
  attempted = leaks.attempted;
  below = leaks.below;
}

-- after a visual inspection
abbrev pub with_look : OpenLeaks → Bool → Bool → ℕ → OpenLeaks
with_look leaks dry leak day =
    if leak
    then record {
      readings = leaks.readings;
      drips = opened (settled leaks.drips (dry && leaks.attempted) false) true day;
      sensors = leaks.sensors;
      attempted = false;
      below = no_months;
    }
    else with_dry leaks dry

-- after a sensor's indication
abbrev pub with_indication : OpenLeaks → Bool → ℕ → OpenLeaks
with_indication leaks leak day =
    if leak
    then record { readings = leaks.readings; drips = leaks.drips; sensors = opened leaks.sensors true day; attempted = false; below = no_months }
    else leaks

-- after an attempt
abbrev pub with_attempt : OpenLeaks → Bool → OpenLeaks
with_attempt leaks complete = record {
  readings = leaks.readings;
  drips = leaks.drips;
  sensors = settled leaks.sensors complete false;
  attempted = true;
  below = leaks.below;
}

-- after a delay that counts, or one that does not
abbrev pub with_delay : OpenLeaks → Bool → ℕ → OpenLeaks
with_delay leaks counts day =
    if counts
    then record {
      readings = reached leaks.readings true day;
      drips = reached leaks.drips true day;
      sensors = reached leaks.sensors true day;
      attempted = leaks.attempted;
      below = leaks.below;
    }
    else leaks

-- after the component goes out of service
abbrev pub retired : OpenLeaks → OpenLeaks
retired leaks = record { readings = no_leaks; drips = no_leaks; sensors = no_leaks; attempted = leaks.attempted; below = leaks.below }
