-- What is known of a component's tags on a day, by its events up to the day.
use Rattle.std.proofs.Common.{◌≡◌, ℕ, ◌≤◌, Bool, true, false, cond, nat_le, Option, Some, None, List, [], ◌∷◌, ◌++◌, filter, map, refl, sym, ap, ◌∙◌, inl, inr, arith}
use Rattle.std.specs.Prelude.{option_and_then, option_map, not}
use Rattle.std.specs.List.{AllByRecursion}
use Rattle.std.proofs.lemmas.Bool.{cases_Bool, false≢true, leb-true, le-leb}
use Rattle.list_words.specs.Order.{Ascends}
use Rattle.list_words.specs.Words.{first_from, each_from}
use Rattle.list_words.proofs.CutLemmas.{filter_none, filter_all}
use Rattle.list_words.proofs.Members.{all_weaker}
use Rattle.fact_kinds.specs.declared.class.Kind.{Kind}
use Rattle.fact_kinds.specs.declared.key.Key.{Key}
use Rattle.fact_kinds.specs.Facts.{is_earlier}
use Rattle.fact_kinds.proofs.Cuts.{earlier_day}
use Rattle.ldar_law.specs.declared.event.Event.{Event}
use Rattle.ldar_law.specs.declared.span.Span.{Span}
use Rattle.ldar_law.specs.Happenings.{is_attempt}
use Rattle.ldar_law.specs.Spans.{opens, closes, closing_of, attempt_after, is_removable, span_at, spans_of}
use Rattle.ldar_law.specs.SpansByDay.{if_come, events_to, if_closed, span_on, detected_by, SpansUpToADay}

-- a day that is no earlier than a day past t is past t too
pub past_day : (t a b : ℕ) → a ≤ b → nat_le a t ≡ false → nat_le b t ≡ false
past_day t a b no_later out = elim (cases_Bool (nat_le b t)) [
  | inl e ↦ absurd (false≢true (sym out ∙ le-leb a t (omega (arith, no_later, leb-true b t e))))
  | inr e ↦ e
]

-- the event with the earlier key is first
abbrev pub is_first : Event → Event → Bool
is_first a b = is_earlier a.key b.key

module _ (t : ℕ) where
  -- after an event of a later day, all events are of later days
  late_behind : (x : Event) (xs : List Event) → nat_le x.key.day t ≡ false → AllByRecursion (λ y. is_first x y ≡ true) xs
      → AllByRecursion (λ y. nat_le y.key.day t ≡ false) xs
  late_behind x xs out all =
      all_weaker (λ y. is_first x y ≡ true) (λ y. nat_le y.key.day t ≡ false)
      (λ y first. past_day t x.key.day y.key.day (earlier_day x.key y.key first) out) xs all

  -- the prefix and the rest are the whole list
  pub whole_again : (xs : List Event) → Ascends is_first xs → events_to t xs ++ filter (λ e. not (nat_le e.key.day t)) xs ≡ xs
  whole_again [] up = refl
  whole_again (x ∷ xs) up =
      elim (cases_Bool (nat_le x.key.day t)) [
        | inl within ↦ rw within (ap (λ ys. x ∷ ys) (whole_again xs up.1))
        | inr out ↦
            let late = late_behind x xs out up.0 in
            rw (out, filter_none (λ e. nat_le e.key.day t) xs late)
            (ap (λ ys. x ∷ ys) (filter_all (λ e. not (nat_le e.key.day t)) xs
            (all_weaker (λ y. nat_le y.key.day t ≡ false) (λ y. not (nat_le y.key.day t) ≡ true) (λ y f. ap not f) xs late)))
      ]

-- a prefix of events up to a day, followed by events of later days
module _ (t : ℕ) where
  -- all events are up to the day
  abbrev Within : List Event → Type 0
  Within xs = AllByRecursion (λ e. nat_le e.key.day t ≡ true) xs

  -- all events are of later days
  abbrev Late : List Event → Type 0
  Late xs = AllByRecursion (λ e. nat_le e.key.day t ≡ false) xs

  -- the events up to the day
  front_within : (xs : List Event) → Within (events_to t xs)
  front_within [] = tt
  front_within (x ∷ xs) = elim (cases_Bool (nat_le x.key.day t)) [ inl in_time ↦ rw in_time (in_time, front_within xs) | inr out ↦ rw out (front_within xs) ]

  -- the events after the day
  rest_late : (xs : List Event) → Late (filter (λ e. not (nat_le e.key.day t)) xs)
  rest_late [] = tt
  rest_late (x ∷ xs) = elim (cases_Bool (nat_le x.key.day t)) [ inl in_time ↦ rw in_time (rest_late xs) | inr out ↦ rw out (out, rest_late xs) ]

  -- the first event that passes, of a prefix, if it is up to the day
  module _ {Y : Type 0} (give : Event → Y) (due : Y → Option Y) (yes : (e : Event) → nat_le e.key.day t ≡ true → due (give e) ≡ Some (give e))
      (no : (e : Event) → nat_le e.key.day t ≡ false → due (give e) ≡ None) (p : List Event → Event → Bool) where
    -- the first event that passes
    abbrev first_passing : List Event → List Event → Option Event
    first_passing front xs = first_from (λ f e _. p f e) front xs

    -- an event that passes on a later day does not count
    none_come : (front late : List Event) → Late late → option_and_then due (option_map give (first_passing front late)) ≡ None
    none_come front [] all = refl
    none_come front (x ∷ xs) all =
        elim (cases_Bool (p front x)) [
          | inl passes ↦ rw passes (no x all.0)
          | inr fails ↦ rw fails (none_come (front ++ x ∷ []) xs all.1)
        ]

    -- the first event of all that passes, if it is up to the day, is the first of the prefix
    first_of_front : (front xs late : List Event) → Within xs → Late late
        → option_and_then due (option_map give (first_passing front (xs ++ late))) ≡ option_map give (first_passing front xs)
    first_of_front front [] late within all = none_come front late all
    first_of_front front (x ∷ xs) late within all =
        elim (cases_Bool (p front x)) [
          | inl passes ↦ rw passes (yes x within.0)
          | inr fails ↦ rw fails (first_of_front (front ++ x ∷ []) xs late within.1 all)
        ]

  -- the day of an event up to the day
  day_yes : (e : Event) → nat_le e.key.day t ≡ true → (cond (nat_le e.key.day t) (Some e.key.day) None) ≡ Some e.key.day
  day_yes e within = rw within refl

  -- the day of a later event
  day_no : (e : Event) → nat_le e.key.day t ≡ false → (cond (nat_le e.key.day t) (Some e.key.day) None) ≡ None
  day_no e out = rw out refl

  -- the key of an event up to the day
  key_yes : (e : Event) → nat_le e.key.day t ≡ true → (cond (nat_le e.key.day t) (Some e.key) None) ≡ Some e.key
  key_yes e within = rw within refl

  -- the key of a later event
  key_no : (e : Event) → nat_le e.key.day t ≡ false → (cond (nat_le e.key.day t) (Some e.key) None) ≡ None
  key_no e out = rw out refl

  -- the closing of a tag and its first attempt, by the prefix
  closing_on : (kind : Kind) (before : List Event) (leak : Event) (xs late : List Event) → Within xs → Late late
      → if_closed t (closing_of kind before leak (xs ++ late)) ≡ closing_of kind before leak xs
  closing_on kind before leak xs late within all =
      first_of_front (λ e. e.key) (λ key. cond (nat_le key.day t) (Some key) None) key_yes key_no (closes kind) (before ++ leak ∷ []) xs late within all

  -- an attempt on a later day is not known
  none_attempted : (late : List Event) → Late late → if_come t (attempt_after late) ≡ None
  none_attempted [] all = refl
  none_attempted (x ∷ xs) all =
      elim (cases_Bool (is_attempt x.what)) [
        | inl passes ↦ rw (passes, all.0) refl
        | inr fails ↦ rw fails (none_attempted xs all.1)
      ]

  -- the first attempt, if it is up to the day
  attempt_on : (xs late : List Event) → Within xs → Late late → if_come t (attempt_after (xs ++ late)) ≡ attempt_after xs
  attempt_on [] late within all = none_attempted late all
  attempt_on (x ∷ xs) late within all =
      elim (cases_Bool (is_attempt x.what)) [
        | inl passes ↦ rw (passes, within.0) refl
        | inr fails ↦ rw fails (attempt_on xs late within.1 all)
      ]

  module _ (kind : Kind) (front whole : List Event) where
    -- a tag detected after the day is not known on it
    none_detected : (before late : List Event) → Late late → detected_by t (each_from (span_at kind whole) before late) ≡ []
    none_detected before [] all = refl
    none_detected before (x ∷ xs) all =
        elim (cases_Bool (opens kind before x)) [
          | inl opened ↦ rw (opened, all.0) (none_detected (before ++ x ∷ []) xs all.1)
          | inr never ↦ rw never (none_detected (before ++ x ∷ []) xs all.1)
        ]

    -- a tag as known, from its parts
    abbrev tag_with : Key → Option ℕ → Option Key → Span
    tag_with detected attempted closed =
        record { detected = detected; attempted = attempted; closed = closed; removable = is_removable kind front closed }

    -- a tag as known on the day
    known_span : (before : List Event) (x : Event) (xs late : List Event) → Within xs → Late late
        → span_on t kind front (record {
          detected = x.key;
          attempted = attempt_after (xs ++ late);
          closed = closing_of kind before x (xs ++ late);
          removable = is_removable kind whole (closing_of kind before x (xs ++ late));
        }) ≡ tag_with x.key (attempt_after xs) (closing_of kind before x xs)
    known_span before x xs late within all =
        ap (λ attempted. tag_with x.key attempted (if_closed t (closing_of kind before x (xs ++ late)))) (attempt_on xs late within all)
        ∙ ap (tag_with x.key (attempt_after xs)) (closing_on kind before x xs late within all)

    -- the tags that open after a prefix
    spans_on : (before xs late : List Event) → Within xs → Late late
        → each_from (span_at kind front) before xs ≡ map (span_on t kind front) (detected_by t (each_from (span_at kind whole) before (xs ++ late)))
    spans_on before [] late within all = ap (map (span_on t kind front)) (sym (none_detected before late all))
    spans_on before (x ∷ xs) late within all =
        let rest = spans_on (before ++ x ∷ []) xs late within.1 all in
        elim (cases_Bool (opens kind before x)) [
          | inl opened ↦ rw (opened, within.0, rest, known_span before x xs late within.1 all) refl
          | inr never ↦ rw never rest
        ]

pub spans_up_to_a_day : SpansUpToADay
unfolding spans_of
spans_up_to_a_day t kind events up =
    let front = events_to t events in
    let late = filter (λ e. not (nat_le e.key.day t)) events in
    let whole = whole_again t events up in
    spans_on t kind front events [] front late (front_within t events) (rest_late t events)
    ∙ ap (λ all. map (span_on t kind front) (detected_by t (each_from (span_at kind events) [] all))) whole
