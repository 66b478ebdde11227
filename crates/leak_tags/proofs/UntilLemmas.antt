-- Tags as known on a day, one after the other.
use Rattle.std.proofs.Common.{◌≡◌, ℕ, nat_le, List, [], ◌∷◌, length, map, count_by, refl, sym, ap, ◌∙◌, arith}
use Rattle.std.proofs.lemmas.List.Sums.{length-filter}
use Rattle.ldar_law.specs.declared.event.Event.{Event}
use Rattle.ldar_law.specs.declared.span.Span.{Span}
use Rattle.fact_kinds.specs.declared.class.Kind.{Kind}
use Rattle.ldar_law.specs.SpansByDay.{events_to}
use Rattle.ldar_law.specs.SpansByDay.{span_on, detected_by}
use Rattle.ldar_law.proofs.SpansByDayLemmas.{spans_up_to_a_day}
use Rattle.ldar_law.specs.Spans.{spans_of}
use Rattle.list_words.specs.Order.{Ascends}
use Rattle.fact_kinds.specs.Facts.{is_earlier}

-- a list of length 0 is empty
empty : {X : Type 0} (xs : List X) → length xs ≡ 0 → xs ≡ []
empty [] none = refl
empty (x ∷ xs) none = absurd (omega (arith, none))

-- the tags by the events up to a day, from the tags by all events
pub known_spans : (t : ℕ) (kind : Kind) (events : List Event) (spans : List Span) → spans ≡ spans_of kind events →
    Ascends (λ a b. is_earlier a.key b.key) events →
    spans_of kind (events_to t events) ≡ map (span_on t kind (events_to t events)) (detected_by t spans)
known_spans t kind events spans of_all up =
    spans_up_to_a_day t kind events up ∙ ap (λ all. map (span_on t kind (events_to t events)) (detected_by t all)) (sym of_all)

-- if no tag was detected by the day, none is known on it
pub none_detected : (t : ℕ) (spans : List Span) → count_by (λ span. nat_le span.detected.day t) spans ≡ 0 → detected_by t spans ≡ []
none_detected t spans none = empty (detected_by t spans) (length-filter (λ span. nat_le span.detected.day t) spans ∙ none)
