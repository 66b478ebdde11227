-- Short names for examples: events and the tags that they lead to.
use Rattle.std.specs.Prelude.{ℕ, ◌+◌, Bool, true, false, nat_lt, nat_le, Option, Some, None}
use Rattle.fact_kinds.specs.declared.key.Key.{Key}
use Rattle.ldar_law.specs.declared.delay.DelayEntry.{DelayEntry}
use Rattle.ldar_law.specs.declared.delay.DelayLine.{DelayLine}
use Rattle.ldar_law.specs.declared.delay.Stop.{Stop}
use Rattle.ldar_law.specs.declared.delay.Until.{Until}
use Rattle.ldar_law.specs.declared.event.Event.{Event}
use Rattle.ldar_law.specs.declared.event.Happening.{Happening}
use Rattle.ldar_law.specs.declared.event.Happening.TheVariants.{Read, Look, Attempt, Delay, Release, Sensor, Evidence, Retire}
use Rattle.ldar_law.specs.declared.span.Span.{Span}
use Rattle.ldar_law.specs.declared.tag.Tag.{Tag}
use Rattle.ldar_law.specs.Delays.{delay_entered}
use Rattle.ldar_law.specs.Short.{key}

-- ---- events, each at minute 600

-- an event on a day
abbrev pub event : ℕ → Happening → Event
event day what = record { key = key day 600; what = what }

-- a counting routine reading by a leak definition
abbrev pub reads_by : ℕ → ℕ → ℕ → Event
reads_by limit day ppm = event day (Read ppm 0 true true (nat_lt ppm limit) (nat_le limit ppm))

-- a counting routine reading by a valve's leak definition
abbrev pub reads : ℕ → ℕ → Event
reads day ppm = reads_by 500 day ppm

-- a counting routine reading by a valve's leak definition, over a background
abbrev pub reads_over : ℕ → ℕ → ℕ → Event
reads_over day ppm background = event day (Read ppm background true true (nat_lt ppm 500) false)

-- a counting follow-up reading below the leak definition, over a background
abbrev pub follows_up : ℕ → ℕ → ℕ → Event
follows_up day ppm background = event day (Read ppm background false true true false)

-- a follow-up reading that is a leak
abbrev pub leaks_in_a_follow_up : ℕ → Event
leaks_in_a_follow_up day = event day (Read 620 0 false true false true)

-- a reading that does not count
abbrev pub reads_in_vain : ℕ → ℕ → Event
reads_in_vain day ppm = event day (Read ppm 0 true false false false)

-- a counting routine reading that is neither below the leak definition nor a leak, as at a compressor
abbrev pub counts_above : ℕ → ℕ → Event
counts_above day ppm = event day (Read ppm 0 true true false false)

-- a counting routine reading below a leak definition of 10,000, far above the background
abbrev pub far_below : ℕ → Event
far_below day = event day (Read 9_000 0 true true true false)

-- a dry visual inspection
abbrev pub dry : ℕ → Event
dry day = event day (Look false false false)

-- a visual inspection that finds drips
abbrev pub drips : ℕ → Event
drips day = event day (Look true false false)

-- a visual inspection that designates drips as a leak
abbrev pub designates : ℕ → Event
designates day = event day (Look true true true)

-- an attempt at a repair
abbrev pub attempts : ℕ → Event
attempts day = event day (Attempt false)

-- a complete attempt at a repair
abbrev pub completes : ℕ → Event
completes day = event day (Attempt true)

-- a delay of repair of this ground, signed by 9, with an expected day
abbrev pub delays : ℕ → ℕ → ℕ → Event
delays day why expected = event day (Delay why 9 (Some expected))

-- a sensor indicates a compressor's leak
abbrev pub sensor_leak : ℕ → Event
sensor_leak day = event day (Sensor true true)

-- a sensor indicates no leak
abbrev pub sensor_silent : ℕ → Event
sensor_silent day = event day (Sensor false false)

-- a pressure release
abbrev pub releases : ℕ → Event
releases day = event day Release

-- evidence of a leak is present or gone
abbrev pub shows_evidence : ℕ → Bool → Event
shows_evidence day present = event day (Evidence present)

-- a component goes out of service
abbrev pub retires : ℕ → Event
retires day = event day Retire

-- the span of a tag, detected on a day
abbrev pub span : ℕ → Option ℕ → Option Key → Bool → Span
span detected attempted closed removable = record {
  detected = key detected 600;
  attempted = attempted;
  closed = closed;
  removable = removable;
}

-- ---- delays, shutdowns and tags

-- a delay of this ground, entered on a day
abbrev pub delay : ℕ → ℕ → DelayEntry
delay day why = delay_entered (key day 600) why 9 None

-- a delay of this ground with an expected day
abbrev pub delay_until : ℕ → ℕ → ℕ → DelayEntry
delay_until day why expected = delay_entered (key day 600) why 9 (Some expected)

-- a shutdown from its first day to its last
abbrev pub stop : ℕ → ℕ → Stop
stop first last = record { first = first; last = last }

-- a tag as views show it, detected on a day, with its due days
abbrev pub tag : ℕ → ℕ → Option ℕ → Until → Option ℕ → Option DelayEntry → Bool → Tag
tag component detected attempted due closed delayed removable = record {
  component = component;
  detected = detected;
  attempt_due = detected + 5;
  attempted = attempted;
  repair_due = due;
  closed = closed;
  delay = delayed;
  removable = removable;
}

-- the line of an open tag
abbrev pub line : ℕ → ℕ → DelayEntry → Until → DelayLine
line component detected delay until = record { component = component; detected = detected; delay = delay; until = until; closed = None }
