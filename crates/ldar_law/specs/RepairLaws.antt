-- Laws about tags and delays of repair: the statements of `laws::repairs`.
use Rattle.std.specs.Prelude.{ℕ, Bool, false, Option, Some, None, if◌then◌else◌, List, [], ◌∷◌, ◌++◌, ◌≡◌, ◌↔◌, slice_get, option_and_then, filter_map}
use Rattle.std.specs.Option.{option_map_or}
use Rattle.list_words.specs.Order.{Ascends}
use Rattle.fact_kinds.specs.declared.class.Kind.{Kind}
use Rattle.fact_kinds.specs.declared.key.Key.{Key}
use Rattle.fact_kinds.specs.Facts.{is_earlier}
use Rattle.ldar_law.specs.declared.delay.DelayEntry.{DelayEntry}
use Rattle.ldar_law.specs.declared.delay.Stop.{Stop}
use Rattle.ldar_law.specs.declared.event.Event.{Event}
use Rattle.ldar_law.specs.declared.span.Span.{Span}
use Rattle.ldar_law.specs.Delays.{counted_delay, counted_place, is_ignored, AreIgnored, IsLastCounted}
use Rattle.ldar_law.specs.Spans.{spans_of}
use Rattle.ldar_law.specs.Tags.{delay_entry, delays_of}

-- a tag is closed before another is detected
abbrev pub closes_before : Span → Span → Bool
closes_before a b = option_map_or (λ key. is_earlier key b.detected) a.closed false

-- with events in key order, at most one tag is open at a time: each is closed before the next is detected
abbrev pub SpansFollow : Type 0
SpansFollow =
    (kind : Kind) (events : List Event) → Ascends (λ a b. is_earlier a.key b.key) events → Ascends closes_before (spans_of kind events)

-- one more delay counts, or is ignored if its day is past the due day set by those before it
abbrev pub OneMoreDelay : Type 0
OneMoreDelay =
    (detected : ℕ) (attempts : List ℕ) (stops : List Stop) (delays : List DelayEntry) (delay : DelayEntry)
    → counted_delay detected attempts stops (delays ++ delay ∷ [])
    ≡ (if is_ignored detected attempts stops delays delay then counted_delay detected attempts stops delays else Some delay)

-- the place is that of the last delay that counts
abbrev pub CountedPlaceIsOfDelay : Type 0
CountedPlaceIsOfDelay =
    (detected : ℕ) (attempts : List ℕ) (stops : List Stop) (delays : List DelayEntry)
    → option_and_then (slice_get delays) (counted_place detected attempts stops delays) ≡ counted_delay detected attempts stops delays

-- there is no place exactly if all delays are ignored
abbrev pub NoneCounted : Type 0
NoneCounted =
    (detected : ℕ) (attempts : List ℕ) (stops : List Stop) (delays : List DelayEntry)
    → (counted_place detected attempts stops delays ≡ None) ↔ AreIgnored detected attempts stops delays

-- the place is that of the last delay that is not ignored
abbrev pub CountedPlaceIsLast : Type 0
CountedPlaceIsLast =
    (detected : ℕ) (attempts : List ℕ) (stops : List Stop) (delays : List DelayEntry) (place : ℕ)
    → counted_place detected attempts stops delays ≡ Some place → IsLastCounted detected attempts stops delays place

-- the events after a tag's delays begin with its closing; there are none if the tag is open
abbrev pub BeginsWithClosing : Option Key → List Event → Type 0
BeginsWithClosing None rest = rest ≡ []
BeginsWithClosing (Some key) rest = (closing : Event) × (after : List Event) × (closing.key ≡ key) × (rest ≡ closing ∷ after)

-- with events in key order, the delays of a tag are those between its detection and its closing
abbrev pub DelaysLieBetween : Type 0
DelaysLieBetween =
    (span : Span) (before : List Event) (leak : Event) (between rest : List Event)
    → Ascends (λ a b. is_earlier a.key b.key) (before ++ leak ∷ (between ++ rest))
    → span.detected ≡ leak.key → BeginsWithClosing span.closed rest
    → delays_of span (before ++ leak ∷ (between ++ rest)) ≡ filter_map delay_entry between
