-- A walk over events: one more event, and where it ends.
use Rattle.std.proofs.Common.{◌≡◌, ℕ, zero, suc, ◌+◌, ◌-◌, ◌<◌, ◌≤◌, nat_le, filter, List, []}
use Rattle.std.proofs.Common.{◌∷◌, ◌++◌, length, take, drop, get_or, refl, sym, ap, ◌∙◌, subst, arith}
use Rattle.std.specs.List.{AllByRecursion}
use Rattle.std.proofs.lemmas.Bool.{le-leb, lt-leb}
use Rattle.std.proofs.lemmas.List.{drop_more, take_more, drop_all, get_or-drop, length-drop}
use Rattle.list_words.specs.Order.{Ascends}
use Rattle.list_words.proofs.Members.{all_append, all_weaker}
use Rattle.ldar_days.specs.Calendar.{IsMonth, first_day, month_of}
use Rattle.fact_kinds.specs.Facts.{is_earlier}
use Rattle.ldar_law.specs.declared.event.Event.{Event}
use Rattle.monitor_calendar.specs.Behind.{Tells}
use Rattle.monitor_calendar.specs.Walks.{IsOn, IsAt}
use Rattle.monitor_calendar.specs.declared.past_months.PastMonths.{PastMonths}
use Rattle.monitor_calendar.proofs.PeriodLemmas.{to_end}
use Rattle.monitor_calendar.proofs.Rising.{earlier, months_ahead, months_behind, no_earlier}

-- each month is at least 0
from_zero : (es : List Event) → AllByRecursion (λ e. 0 ≤ month_of e.key.day) es
from_zero [] = tt
from_zero (e ∷ es) = (omega arith, from_zero es)

-- the element at a place after some elements is the one at the sum of the two places
pub behind_at : {X : Type 0} (xs : List X) (from i place : ℕ) (x : X) → place ≡ from + i → i < length (take (length xs - from) (drop from xs)) →
    (place < length xs) × (get_or xs place x ≡ get_or (take (length xs - from) (drop from xs)) i x)
behind_at xs from i place x at within =
    (omega (arith, at, within, ap length (to_end xs from), length-drop from xs), rw (at, to_end xs from, get_or-drop from xs i x) refl)

-- no event is before the first one
pub on_start : (past : PastMonths) (events : List Event) (month : ℕ) → Tells past 0 [] → IsOn past events 0 month
on_start past events month tells = record {
  within = omega arith;
  last = 0;
  before = omega arith;
  front = tt;
  ahead = from_zero events;
  tells = tells;
}

-- a walk to a month is also a walk to each later one
pub on_to : (past : PastMonths) (events : List Event) (place before month : ℕ) → IsOn past events place before → before ≤ month → IsOn past events place month
on_to past events place before month on le = record {
  within = on.within;
  last = on.last;
  before = omega (arith, on.before, le);
  front = all_weaker (λ e. month_of e.key.day < before) (λ e. month_of e.key.day < month) (λ e lt. omega (arith, lt, le)) (take place events) on.front;
  ahead = on.ahead;
  tells = on.tells;
}

module _ (events : List Event) (place month : ℕ) (e : Event) (up : Ascends (λ a b. is_earlier a.key b.key) events) (within : place < length events)
    (stands : get_or events place e ≡ e) where
  -- the event is the first from the place on
  split : drop place events ≡ e ∷ drop (place + 1) events
  split = drop_more events place e within ∙ ap (λ x. x ∷ drop (place + 1) events) stands

  -- the event is the last before the next place
  longer : take (place + 1) events ≡ take place events ++ e ∷ []
  longer = take_more events place e within ∙ ap (λ x. take place events ++ x ∷ []) stands

  -- the events after it are of months that are not earlier
  later : AllByRecursion (λ x. month_of e.key.day ≤ month_of x.key.day) (drop (place + 1) events)
  later =
      subst (λ x. AllByRecursion (λ y. month_of x.key.day ≤ month_of y.key.day) (drop (place + 1) events)) stands (months_ahead events place e up within)

  -- one more event
  pub on_next : (past next : PastMonths) → IsOn past events place month → month_of e.key.day < month →
      ((last : ℕ) (front : List Event) → Tells past last front → last ≤ month_of e.key.day → Tells next (month_of e.key.day) (front ++ e ∷ [])) →
      IsOn next events (place + 1) month
  on_next past next on lt goes = record {
    within = omega arith;
    last = month_of e.key.day;
    before = omega arith;
    front =
        subst (AllByRecursion (λ x. month_of x.key.day < month)) (sym longer)
        (all_append (λ x. month_of x.key.day < month) (take place events) (e ∷ []) on.front (lt, tt));
    ahead = later;
    tells =
        subst (Tells next (month_of e.key.day)) (sym longer)
        (goes on.last (take place events) on.tells (subst (AllByRecursion (λ x. on.last ≤ month_of x.key.day)) split on.ahead).0);
  }

  -- after an event whose summary is the same whatever came before it
  pub on_behind : (past : PastMonths) → AllByRecursion (λ x. month_of x.key.day < month) (take (place + 1) events) → month_of e.key.day < month →
      ((front : List Event) → AllByRecursion (λ x. month_of x.key.day ≤ month_of e.key.day) front → Tells past (month_of e.key.day) (front ++ e ∷ [])) →
      IsOn past events (place + 1) month
  on_behind past front lt tells = record {
    within = omega arith;
    last = month_of e.key.day;
    before = omega (arith, lt);
    front = front;
    ahead = later;
    tells =
        subst (Tells past (month_of e.key.day)) (sym longer) (tells (take place events)
        (subst (λ x. AllByRecursion (λ y. month_of y.key.day ≤ month_of x.key.day) (take place events)) stands (months_behind events place e up within)));
  }

  -- the event is not of an earlier month
  pub at_event : (past : PastMonths) → IsOn past events place month → month ≤ month_of e.key.day → IsAt past events place month
  at_event past on le = record {
    on = on;
    rest =
        subst (AllByRecursion (λ x. month ≤ month_of x.key.day)) (sym split) (
          le,
          all_weaker (λ x. month_of e.key.day ≤ month_of x.key.day) (λ x. month ≤ month_of x.key.day) (λ x h. omega (arith, h, le)) (drop
              (place + 1) events) later,
        );
  }

-- the events from a place at which a month begins are those from its first day on
pub rest_from : (events : List Event) (place month : ℕ) → IsMonth month → AllByRecursion (λ e. month_of e.key.day < month) (take place events) →
    AllByRecursion (λ e. month ≤ month_of e.key.day) (drop place events) → drop place events ≡ filter (λ e. nat_le (first_day month) e.key.day) events
rest_from [] zero month is front rest = refl
rest_from [] (suc place) month is front rest = refl
rest_from (e ∷ es) zero month is front rest =
    rw (le-leb (first_day month) e.key.day (no_earlier month e.key.day is rest.0)) (ap (λ xs. e ∷ xs) (rest_from es zero month is tt rest.1))
rest_from (e ∷ es) (suc place) month is front rest =
    rw (lt-leb (first_day month) e.key.day (earlier month e.key.day is front.0)) (rest_from es place month is front.1 rest)

-- there are no events from a place at the end
pub at_end : (past : PastMonths) (events : List Event) (place month : ℕ) → length events ≤ place → IsOn past events place month → IsAt past events place month
at_end past events place month end on = record {
  on = on;
  rest = subst (AllByRecursion (λ x. month ≤ month_of x.key.day)) (sym (drop_all place events end)) tt;
}
