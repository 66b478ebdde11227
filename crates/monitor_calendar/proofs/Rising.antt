-- Events in key order are in the order of their days and months.
use Rattle.std.proofs.Common.{◌≡◌, ℕ, zero, suc, ◌+◌, ◌-◌, ◌<◌, ◌≤◌, true, List, [], ◌∷◌, length, take, drop, get_or, refl, ap, inl, inr, arith}
use Rattle.std.specs.List.{AllByRecursion}
use Rattle.std.specs.List.Sorted.{IsNonDecreasingBy}
use Rattle.std.proofs.lemmas.Bool.Decides.{nat_tests}
use Rattle.list_words.specs.Order.{Ascends}
use Rattle.list_words.proofs.Members.{all_weaker}
use Rattle.std.proofs.lemmas.Bool.{cases_lt}
use Rattle.ldar_days.specs.Calendar.{IsDay, IsMonth, first_day, month_of}
use Rattle.ldar_days.proofs.Months.{first_day-le, first_day-lt, first_day-2008, month_bounds, month_length_bounds, month_of-first_day, month_of-is}
use Rattle.fact_kinds.specs.Facts.{is_earlier}
use Rattle.fact_kinds.proofs.Cuts.{earlier_day}
use Rattle.ldar_law.specs.declared.event.Event.{Event}

-- an element before all others is before each of them
before_each : (x : Event) (ys : List Event) (j : ℕ) (d : Event) → AllByRecursion (λ y. is_earlier x.key y.key ≡ true) ys → j < length ys →
    is_earlier x.key (get_or ys j d).key ≡ true
before_each x [] j d all within = absurd (omega arith)
before_each x (y ∷ ys) zero d all within = all.0
before_each x (y ∷ ys) (suc j) d all within = before_each x ys j d all.1 (omega (arith, within))

-- the days of events in key order do not decrease
pub days_rise : (events : List Event) → Ascends (λ a b. is_earlier a.key b.key) events → IsNonDecreasingBy (λ e. e.key.day) events
days_rise [] up i j d le within = absurd (omega arith)
days_rise (e ∷ es) up zero zero d le within = omega arith
days_rise (e ∷ es) up zero (suc j) d le within = earlier_day e.key (get_or es j d).key (before_each e es j d up.0 (omega (arith, within)))
days_rise (e ∷ es) up (suc i) zero d le within = absurd (omega arith)
days_rise (e ∷ es) up (suc i) (suc j) d le within = days_rise es up.1 i j d (omega (arith, le)) (omega (arith, within))

-- the month of a later day is not earlier
pub month_rises : (a b : ℕ) → a ≤ b → month_of a ≤ month_of b
unfolding month_of
month_rises a b le = grind (arith, nat_tests)

-- no month is before January 1970
pub month_low : (n : ℕ) → 23_640 ≤ month_of n
unfolding month_of
month_low n = grind (arith, nat_tests)

-- the day before the calendar's first
december : month_of 13_878 ≡ 24_095
unfolding month_of first_day
december = refl

-- the day is in an earlier month if it is before the month's first day, and not from there on
pub before_first : (month day : ℕ) → IsDay day → 23_640 ≤ month → day < first_day month → month_of day < month
before_first month day is low lt =
    elim (cases_lt (month_of day) month) [
      | inl before ↦ before
      | inr late ↦ absurd (omega (arith, lt, (month_of-is day is).0, (first_day-le month (month_of day) low late).0))
    ]

pub from_first : (month day : ℕ) → IsDay day → first_day month ≤ day → month ≤ month_of day
from_first month day is le =
    elim (cases_lt (month_of day) month) [
      | inl before ↦ absurd (omega
          (arith, le, (month_of-is day is).1, month_length_bounds (month_of day), first_day-lt (month_of day) month (month_low day) before))
      | inr late ↦ late
    ]

-- a day before a month of the calendar is in an earlier month
pub before_month : (month day : ℕ) → IsMonth month → day < first_day month → month_of day < month
before_month month day is lt =
    elim (cases_lt 24_096 month) [
      | inl after ↦
          let low : 13_879 ≤ first_day month - 1 = omega (arith, first_day-2008, first_day-lt 24_096 month (omega arith) after, month_length_bounds 24_096) in
          let high : first_day month - 1 ≤ 47_481 = omega (arith, month_bounds month is, month_length_bounds month) in
          let last : month_of (first_day month - 1) < month =
          before_first month (first_day month - 1) (low, high) (omega (arith, is)) (omega (arith, low)) in
          omega (arith, last, month_rises day (first_day month - 1) (omega (arith, lt)))
      | inr first ↦
          let same : 24_096 ≡ month = omega (arith, first, is) in
          let by : day ≤ 13_878 = omega (arith, first_day-2008, lt, ap first_day same) in
          omega (arith, month_rises day 13_878 by, december, same)
    ]

-- a day that is not in an earlier month is not before the month
pub no_earlier : (month day : ℕ) → IsMonth month → month ≤ month_of day → first_day month ≤ day
no_earlier month day is late =
    elim (cases_lt day (first_day month)) [
      | inl early ↦ absurd (omega (arith, late, before_month month day is early))
      | inr from ↦ from
    ]

-- a day in an earlier month is before the month
pub earlier : (month day : ℕ) → IsMonth month → month_of day < month → day < first_day month
earlier month day is lt =
    elim (cases_lt day (first_day month)) [
      | inl early ↦ early
      | inr from ↦ absurd (omega (arith, lt, month_rises (first_day month) day from, month_of-first_day month is))
    ]

-- each later event in key order is of a month that is not earlier
pub months_ahead : (events : List Event) (i : ℕ) (d : Event) → Ascends (λ a b. is_earlier a.key b.key) events → i < length events →
    AllByRecursion (λ e. month_of (get_or events i d).key.day ≤ month_of e.key.day) (drop (i + 1) events)
months_ahead [] i d up within = absurd (omega arith)
months_ahead (e ∷ es) zero d up within =
    all_weaker (λ y. is_earlier e.key y.key ≡ true) (λ y. month_of e.key.day ≤ month_of y.key.day)
    (λ y earlier. month_rises e.key.day y.key.day (earlier_day e.key y.key earlier)) es up.0
months_ahead (e ∷ es) (suc i) d up within =
    let next : suc i + 1 ≡ suc (i + 1) = omega arith in rw next (months_ahead es i d up.1 (omega (arith, within)))

-- each earlier event in key order is of a month that is not later
pub months_behind : (events : List Event) (i : ℕ) (d : Event) → Ascends (λ a b. is_earlier a.key b.key) events → i < length events →
    AllByRecursion (λ e. month_of e.key.day ≤ month_of (get_or events i d).key.day) (take i events)
months_behind [] i d up within = absurd (omega arith)
months_behind (e ∷ es) zero d up within = tt
months_behind (e ∷ es) (suc i) d up within = (
  month_rises e.key.day (get_or es i d).key.day (earlier_day e.key (get_or es i d).key (before_each e es i d up.0 (omega (arith, within)))),
  months_behind es i d up.1 (omega (arith, within)),
)

-- the first events, each before a month, are of earlier months
pub months_before : (events : List Event) (month count : ℕ) → IsMonth month → count ≤ length events →
    ((k : ℕ) (d : Event) → k < count → (get_or events k d).key.day < first_day month) →
    AllByRecursion (λ e. month_of e.key.day < month) (take count events)
months_before [] month zero is within days = tt
months_before [] month (suc count) is within days = absurd (omega arith)
months_before (e ∷ es) month zero is within days = tt
months_before (e ∷ es) month (suc count) is within days = (
  before_month month e.key.day is (days 0 e (omega arith)),
  months_before es month count is (omega (arith, within)) (λ k d lt. days (suc k) d (omega (arith, lt))),
)

-- a tail of events in key order is in key order
pub ascends_drop : (n : ℕ) (events : List Event) → Ascends (λ a b. is_earlier a.key b.key) events → Ascends (λ a b. is_earlier a.key b.key) (drop n events)
ascends_drop zero events up = up
ascends_drop (suc n) [] up = up
ascends_drop (suc n) (e ∷ es) up = ascends_drop n es up.1
