-- The tags of a component as known on a day, by its events up to the day.
use Rattle.std.specs.Prelude.{◌≡◌, ℕ, nat_le, Option, Some, None, option_and_then, if◌then◌else◌, List, filter, map}
use Rattle.list_words.specs.Order.{Ascends}
use Rattle.fact_kinds.specs.declared.class.Kind.{Kind}
use Rattle.fact_kinds.specs.declared.key.Key.{Key}
use Rattle.fact_kinds.specs.Facts.{is_earlier}
use Rattle.ldar_law.specs.declared.event.Event.{Event}
use Rattle.ldar_law.specs.declared.span.Span.{Span}
use Rattle.ldar_law.specs.Spans.{is_removable, spans_of}

-- the day, if it is not after t
abbrev pub if_come : ℕ → Option ℕ → Option ℕ
if_come t day = option_and_then (λ d. if nat_le d t then Some d else None) day

-- the events with a day of at most t
abbrev pub events_to : ℕ → List Event → List Event
events_to t events = filter (λ e. nat_le e.key.day t) events

-- the key, if its day is not after t
abbrev pub if_closed : ℕ → Option Key → Option Key
if_closed t closed = option_and_then (λ key. if nat_le key.day t then Some key else None) closed

-- a tag as known on a day: with the same detection, its attempt and its closing if they are up to the day, and removable or not by the
-- events up to the day
abbrev pub span_on : ℕ → Kind → List Event → Span → Span
span_on t kind front span = record {
  detected = span.detected;
  attempted = if_come t span.attempted;
  closed = if_closed t span.closed;
  removable = is_removable kind front (if_closed t span.closed);
}

-- the tags detected by a day
abbrev pub detected_by : ℕ → List Span → List Span
detected_by t spans = filter (λ span. nat_le span.detected.day t) spans

-- the tags by the events up to a day are those detected by then, each as known on the day
abbrev pub SpansUpToADay : Type 0
SpansUpToADay =
    (t : ℕ) (kind : Kind) (events : List Event) → Ascends (λ a b. is_earlier a.key b.key) events
    → spans_of kind (events_to t events) ≡ map (span_on t kind (events_to t events)) (detected_by t (spans_of kind events))
