-- The tags of a component with their due days, and the lines of delayed repairs (40 CFR 60.486a(b), (c), 60.482-9a).
use Rattle.std.specs.Prelude.{ℕ, ◌+◌, Bool, true, not, ◌&&◌, nat_lt, nat_le, Option, Some, None, option_map}
use Rattle.std.specs.Prelude.{option_and_then, is_none, if◌then◌else◌, List, filter, filter_map, map}
use Rattle.std.specs.Option.{option_map_or}
use Rattle.fact_kinds.specs.declared.class.Kind.{Kind}
use Rattle.fact_kinds.specs.declared.key.Key.{Key}
use Rattle.fact_kinds.specs.Facts.{is_earlier}
use Rattle.ldar_law.specs.declared.delay.DelayEntry.{DelayEntry}
use Rattle.ldar_law.specs.declared.delay.DelayLine.{DelayLine}
use Rattle.ldar_law.specs.declared.delay.Stop.{Stop}
use Rattle.ldar_law.specs.declared.event.Event.{Event}
use Rattle.ldar_law.specs.declared.event.Happening.{Happening}
use Rattle.ldar_law.specs.declared.event.Happening.TheVariants.{Delay}
use Rattle.ldar_law.specs.declared.numbers.TheConstants.{LISTED_DAYS}
use Rattle.ldar_law.specs.declared.span.Span.{Span}
use Rattle.ldar_law.specs.declared.tag.Tag.{Tag}
use Rattle.ldar_law.specs.Delays.{delay_entered, repair_due, counted_delay, attempt_by, is_past}
use Rattle.ldar_law.specs.Happenings.{is_attempt}
use Rattle.ldar_law.specs.Spans.{spans_of}

-- the delay of an event with this key, if it is one
abbrev pub delay_at : Key → Happening → Option DelayEntry
delay_at key (Delay why signer expected) = Some (delay_entered key why signer expected)
delay_at key _ = None

-- the delay of an event, if it is one
abbrev pub delay_entry : Event → Option DelayEntry
delay_entry e = delay_at e.key e.what

-- the key is after the tag's detection, and before its closing if it is closed
abbrev pub is_within : Span → Key → Bool
is_within span key = is_earlier span.detected key && option_map_or (λ closed. is_earlier key closed) span.closed true

-- the delays of a tag: those between its detection and its closing
abbrev pub delays_of : Span → List Event → List DelayEntry
delays_of span events = filter (λ d. is_within span d.key) (filter_map delay_entry events)

-- the days of a component's attempts, for any tag
abbrev pub attempt_days : List Event → List ℕ
attempt_days events = map (λ e. e.key.day) (filter (λ e. is_attempt e.what) events)

-- a tag as views show it, with the shutdowns of the process unit
unfoldable pub tag_of : ℕ → List Event → List Stop → Span → Tag
tag_of component events stops span = record {
  component = component;
  detected = span.detected.day;
  attempt_due = attempt_by span.detected.day;
  attempted = span.attempted;
  repair_due = repair_due span.detected.day (attempt_days events) stops (delays_of span events);
  closed = option_map (λ key. key.day) span.closed;
  delay = counted_delay span.detected.day (attempt_days events) stops (delays_of span events);
  removable = span.removable;
}

-- the tags of a component, in the order of their detection
abbrev pub tags_of : ℕ → Kind → List Event → List Stop → List Tag
tags_of component kind events stops = map (tag_of component events stops) (spans_of kind events)

-- the tag is not closed
abbrev pub is_open : Tag → Bool
is_open tag = is_none tag.closed

-- the tag is on the list of a day: open, or closed at most 366 days before (our own rule)
abbrev pub is_shown : ℕ → Tag → Bool
is_shown day tag = option_map_or (λ closed. nat_le day (closed + LISTED_DAYS)) tag.closed true

-- the tag is late: closed after its due day, or open when its due day is past
abbrev pub is_late : ℕ → Tag → Bool
is_late day tag = is_past (option_map_or (λ closed. closed) tag.closed day) tag.repair_due

-- the last delay that is not ignored, unless it is withdrawn
abbrev pub standing_delay : Tag → Option DelayEntry
standing_delay tag = option_and_then (λ d. if nat_lt 0 d.«ground» then Some d else None) tag.delay

-- the repair is delayed
abbrev pub is_delayed : Tag → Bool
is_delayed tag = not (is_none (standing_delay tag))

-- the line of a tag with a delay
abbrev pub line_on : Tag → DelayEntry → DelayLine
line_on tag delay = record {
  component = tag.component;
  detected = tag.detected;
  delay = delay;
  until = tag.repair_due;
  closed = tag.closed;
}

-- 40 CFR 60.486a(c): the line of an open tag whose repair is delayed
abbrev pub line_on_open : Tag → Option DelayLine
line_on_open tag = if is_open tag then option_map (line_on tag) (standing_delay tag) else None

-- the lines of the delays view, from the tags of a unit
abbrev pub delay_lines : List Tag → List DelayLine
delay_lines tags = filter_map line_on_open tags
