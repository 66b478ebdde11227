use Rattle.std.proofs.Common.{◌≡◌, Bool, true, false, not, ◌&&◌, Option, Some, None, List, [], ◌∷◌, ◌++◌, option_map, refl, sym, ap, ◌∙◌}
use Rattle.std.specs.Prelude.{if◌then◌else◌}
use Rattle.std.specs.List.{AllByRecursion, cons_option}
use Rattle.std.specs.Option.{option_map_or}
use Rattle.std.proofs.Math.Bool.{or-true, and-false}
use Rattle.std.proofs.lemmas.Bool.{false≢true}
use Rattle.list_words.specs.Order.{Ascends}
use Rattle.list_words.specs.Words.{somewhere_from, first_from, each_from}
use Rattle.fact_kinds.specs.declared.class.Kind.{Kind}
use Rattle.fact_kinds.specs.declared.key.Key.{Key}
use Rattle.fact_kinds.specs.Facts.{is_earlier}
use Rattle.ldar_law.specs.declared.event.Event.{Event}
use Rattle.ldar_law.specs.declared.span.Span.{Span}
use Rattle.ldar_law.specs.Happenings.{is_leak}
use Rattle.ldar_law.specs.Settling.{is_settled, is_unsettled}
use Rattle.ldar_law.specs.Spans.{opens, closes, span_at, spans_of}
use Rattle.ldar_law.specs.RepairLaws.{closes_before, SpansFollow}
use Rattle.ldar_law.proofs.TestLemmas.{both}

not_false : (b : Bool) → not b ≡ false → b ≡ true
not_false true e = refl
not_false false e = sym e

-- some element passes if the last one does
last_passes : (q : Event → List Event → Bool) (front rest : List Event) (x : Event) → q x [] ≡ true →
    somewhere_from (λ _ y after. q y after) front (rest ++ x ∷ []) ≡ true
last_passes q front [] x h = rw h refl
last_passes q front (z ∷ rest) x h = rw (last_passes q (front ++ z ∷ []) rest x h) (or-true (q z (rest ++ x ∷ [])))

-- a leak is unsettled if nothing follows it
leak_unsettled : (kind : Kind) (front : List Event) (leak : Event) → is_leak leak.what ≡ true → is_unsettled kind (front ++ leak ∷ []) ≡ true
leak_unsettled kind front leak h = last_passes (λ y after. is_leak y.what && not (is_settled kind y after)) [] front leak (ap (λ b. b && true) h)

-- a property of all spans, with one more that is kept
all_given : (b : Bool) (s : Span) (P : Span → Type 0) (rest : List Span) → P s → AllByRecursion P rest →
    AllByRecursion P (cons_option (if b then Some s else None) rest)
all_given true s P rest h all = (h, all)
all_given false s P rest h all = all

-- a property of all spans, with one more that is not kept
all_skipped : (b : Bool) (s : Span) (P : Span → Type 0) (rest : List Span) → b ≡ false → AllByRecursion P rest →
    AllByRecursion P (cons_option (if b then Some s else None) rest)
all_skipped true s P rest e all = absurd (false≢true (sym e))
all_skipped false s P rest e all = all

-- one more span at the head, which is closed before all others
one_more : (b : Bool) (s : Span) (rest : List Span) → (b ≡ true → AllByRecursion (λ r. closes_before s r ≡ true) rest) → Ascends closes_before rest →
    Ascends closes_before (cons_option (if b then Some s else None) rest)
one_more true s rest h asc = (h refl, asc)
one_more false s rest h asc = asc

module _ (kind : Kind) (events : List Event) where
  -- tags are detected at events
  detected_later : (key : Key) (front xs : List Event) → AllByRecursion (λ e. is_earlier key e.key ≡ true) xs →
      AllByRecursion (λ s. is_earlier key s.detected ≡ true) (each_from (span_at kind events) front xs)
  detected_later key front [] h = tt
  detected_later key front (x ∷ xs) h =
      all_given (opens kind front x) _ (λ s. is_earlier key s.detected ≡ true) _ h.0 (detected_later key (front ++ x ∷ []) xs h.1)

  -- the closing found after some events
  abbrev closing : List Event → List Event → Option Key
  closing front xs = option_map (λ e. e.key) (first_from (λ f e _. closes kind f e) front xs)

  -- the closing is before a detection
  abbrev IsBefore : Option Key → Span → Type 0
  IsBefore closed s = option_map_or (λ key. is_earlier key s.detected) closed false ≡ true

  -- one more event closes the tag, or a later event does
  one_event : (front : List Event) (y : Event) (ys : List Event) (b : Bool) → closes kind front y ≡ b →
      AllByRecursion (λ e. is_earlier y.key e.key ≡ true) ys →
      (is_unsettled kind (front ++ y ∷ []) ≡ true → AllByRecursion (IsBefore (closing (front ++ y ∷ []) ys))
      (each_from (span_at kind events) (front ++ y ∷ []) ys)) →
      AllByRecursion (IsBefore (option_map (λ e. e.key) (if b then Some y else first_from (λ f e _. closes kind f e) (front ++ y ∷ []) ys)))
      (each_from (span_at kind events) (front ++ y ∷ []) ys)
  one_event front y ys true e later rec = detected_later y.key (front ++ y ∷ []) ys later
  one_event front y ys false e later rec = rec (not_false (is_unsettled kind (front ++ y ∷ [])) e)

  -- while a leak is unsettled no tag opens, and the closing is before the next detection
  closed_before : (front xs : List Event) → is_unsettled kind front ≡ true → Ascends (λ a b. is_earlier a.key b.key) xs →
      AllByRecursion (IsBefore (closing front xs)) (each_from (span_at kind events) front xs)
  closed_before front [] unsettled asc = tt
  closed_before front (y ∷ ys) unsettled asc =
      all_skipped (opens kind front y) _ (IsBefore (closing front (y ∷ ys))) _
      (ap (λ b. is_leak y.what && not b) unsettled ∙ and-false (is_leak y.what))
      (one_event front y ys (closes kind front y) refl asc.0 (λ still. closed_before (front ++ y ∷ []) ys still asc.1))

  -- the tags that open after some events are each closed before the next is detected
  follow_from : (front xs : List Event) → Ascends (λ a b. is_earlier a.key b.key) xs → Ascends closes_before (each_from (span_at kind events) front xs)
  follow_from front [] asc = tt
  follow_from front (x ∷ xs) asc =
      one_more (opens kind front x) _ _
      (λ opened. closed_before (front ++ x ∷ []) xs (leak_unsettled kind front x (both opened).0) asc.1)
      (follow_from (front ++ x ∷ []) xs asc.1)

pub spans_follow : SpansFollow
unfolding spans_of
spans_follow kind events asc = follow_from kind events [] events asc
