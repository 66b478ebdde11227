-- The time from the detection of a leak until no leak is unsettled (40 CFR 60.486a(b)).
use Rattle.std.specs.Prelude.{ℕ, Bool, true, false, not, ◌&&◌, ◌||◌, Option, Some, None, option_map, if◌then◌else◌, List, [], ◌∷◌, ◌++◌, find}
use Rattle.std.specs.Option.{option_map_or}
use Rattle.list_words.specs.Words.{first_from, each_where}
use Rattle.ldar_days.specs.Calendar.{month_of}
use Rattle.fact_kinds.specs.declared.class.Kind.{Kind}
use Rattle.fact_kinds.specs.declared.class.Kind.TheVariants.{Valve}
use Rattle.fact_kinds.specs.declared.key.Key.{Key}
use Rattle.ldar_law.specs.declared.event.Event.{Event}
use Rattle.ldar_law.specs.declared.span.Span.{Span}
use Rattle.ldar_law.specs.Happenings.{is_leak, is_attempt}
use Rattle.ldar_law.specs.Months.{is_clean_twice_from}
use Rattle.ldar_law.specs.Settling.{is_unsettled}

-- the component is a valve
abbrev pub is_valve : Kind → Bool
is_valve Valve = true
is_valve _ = false

-- a tag opens at a leak if no leak before it is unsettled
abbrev pub opens : Kind → List Event → Event → Bool
opens kind before leak = is_leak leak.what && not (is_unsettled kind before)

-- no leak is unsettled after this event
abbrev pub closes : Kind → List Event → Event → Bool
closes kind before event = not (is_unsettled kind (before ++ event ∷ []))

-- the first event after a leak after which no leak is unsettled
abbrev pub closing_of : Kind → List Event → Event → List Event → Option Key
closing_of kind before leak after = option_map (λ e. e.key) (first_from (λ front e _. closes kind front e) (before ++ leak ∷ []) after)

-- the day of the first attempt after a leak, before or after the tag's closing
abbrev pub attempt_after : List Event → Option ℕ
attempt_after after = option_map (λ e. e.key.day) (find (λ e. is_attempt e.what) after)

-- 40 CFR 60.486a(b)(2), (3): the identification of a closed tag may be removed. A valve's may be removed only if two months in a row are
-- clean, the first of them the month of closing or later (our own rule).
abbrev pub is_removable : Kind → List Event → Option Key → Bool
is_removable kind events closed = option_map_or (λ key. not (is_valve kind) || is_clean_twice_from events (month_of key.day)) closed false

-- the tag that opens at one of the events, seen with the events before it and after it
abbrev pub span_at : Kind → List Event → List Event → Event → List Event → Option Span
span_at kind events before leak after =
    if opens kind before leak
    then Some (record {
      detected = leak.key;
      attempted = attempt_after after;
      closed = closing_of kind before leak after;
      removable = is_removable kind events (closing_of kind before leak after);
    })
    else None

-- the tags of a component, in the order of their detection
unfoldable pub spans_of : Kind → List Event → List Span
spans_of kind events = each_where (span_at kind events) events
