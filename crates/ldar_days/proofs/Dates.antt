-- The days of the calendar as jiff's dates.
use Rattle.std.proofs.Common.{◌≡◌, ℕ, ◌+◌, ◌-◌, ◌/◌, ◌%◌, ◌<◌, ◌≤◌, min, List, refl, sym, ap, ◌∙◌, arith, ℤ, pos, ◌+ℤ◌, ◌*ℤ◌}
use Rattle.std.proofs.Common.{Result, Ok, Err, Option, Some, None, IsNone, IfSome, Bool, true, false}
use Rattle.jiff_core.specs.Sign.{signed}
use Rattle.jiff_core.specs.declared.civil.date.Date.{Date}
use Rattle.jiff_core.specs.declared.span.Span.{Span}
use Rattle.jiff_core.specs.declared.unit.Unit.TheVariants.{Month, Hour, Minute, Second, Millisecond, Microsecond, Nanosecond}
use Rattle.jiff_core.specs.Calendar.{days_from_civil, days_in_month, IsCivilDate}
use Rattle.jiff_core.specs.Date.{epoch_day, IsYmd, month_length as length_of}
use Rattle.jiff_core.specs.Span.{IsOnly, span_months, span_days, clock_days}
use Rattle.jiff_core.proofs.SignedLemmas.{signed_arith}
use Rattle.jiff_core.proofs.DateLemmas.{days_from_civil-day, epoch_day_injective, epoch_day_same}
use Rattle.jiff.specs.Words.{date_add, CanAddToDate, add_months, shifted_year, shifted_month, month_number, date_text, parse_date, date_parts, date_view}
use Rattle.jiff_core.specs.declared.error.Error.{Error}
use Rattle.jiff.proofs.Family.{parse_date-date_text}
use Rattle.ldar_days.specs.Calendar.{IsDay, IsMonth, first_day, month_length, last_day, month_of, place_of, day_at}
use Rattle.ldar_days.specs.Texts.{day_text}
use Rattle.ldar_days.proofs.Months.{first_day-civil, first_day-near, first_day-next, month_of-is, month_of-only, month_of-month, place_bound, month_bounds, month_length_bounds}

-- each place of a month is a day of the civil calendar
place_civil : (m place : ℕ) → IsMonth m → place < month_length m → IsCivilDate (pos (m / 12)) (m % 12 + 1) (place + 1)
unfolding month_length
place_civil m place h lt = ((omega (arith, signed_arith), omega (arith, signed_arith)), (omega arith, omega arith), (omega arith, omega arith))

-- each place of a month has the day number of the first day plus the place
days_from_civil-place : (m place : ℕ) → 23_640 ≤ m → days_from_civil (pos (m / 12)) (m % 12 + 1) (place + 1) ≡ pos (first_day m + place)
days_from_civil-place m place h =
    omega (arith, signed_arith, first_day-civil m h, days_from_civil-day (pos (m / 12)) (m % 12 + 1) 1 (place + 1) (omega arith) (omega arith))

-- a date with the year, month and day of a place has its day number
pub epoch_day-place : (d : Date) (m place : ℕ) → 23_640 ≤ m → d.year ≡ pos (m / 12) → d.month ≡ m % 12 + 1 → d.day ≡ place + 1
    → epoch_day d ≡ pos (first_day m + place)
epoch_day-place d m place h year month day = rw (year, month, day) (days_from_civil-place m place h)

-- an error is not a value
err≢ok : {A E : Type 0} {e : E} {x : A} → Err e ≡ Ok x → ⊥
err≢ok h = cc

-- a result has at most one value
value_same : {A E : Type 0} (r : Result A E) {x y : A} → r ≡ Ok x → r ≡ Ok y → x ≡ y
value_same r h k = cc

-- jiff's date of a day
date_of : (n : ℕ) → IsDay n → Date
date_of n h =
    let c = place_civil (month_of n) (place_of n) (month_of-month n h) (place_bound n h) in record {
      year = pos (month_of n / 12);
      month = month_of n % 12 + 1;
      day = place_of n + 1;
      year_in = c.0;
      month_in = c.1;
      day_in = c.2;
    }

-- jiff's date of a day has the day's number
date_of-epoch_day : (n : ℕ) (h : IsDay n) → epoch_day (date_of n h) ≡ pos n
unfolding date_of
date_of-epoch_day n h =
    let month = month_of-month n h in
    omega (arith, signed_arith, days_from_civil-place (month_of n) (place_of n) (omega arith), month_of-is n h)

-- a date with the number of a day has the day's month and place
pub date_parts_are : (d : Date) (n : ℕ) → IsDay n → epoch_day d ≡ pos n
    → (d.year ≡ pos (month_of n / 12)) × (d.month ≡ month_of n % 12 + 1) × (d.day ≡ place_of n + 1)
unfolding date_of
date_parts_are d n h e = epoch_day_injective d (date_of n h) (e ∙ sym (date_of-epoch_day n h))

-- the text of a date with the number of a day is the day's text
pub date_text-day_text : (d : Date) (n : ℕ) → IsDay n → epoch_day d ≡ pos n → date_text d ≡ day_text n
date_text-day_text d n h e = let are = date_parts_are d n h e in rw (are.0, are.1, are.2) refl

-- jiff reads a day's text
parse_date-day_text : (n : ℕ) (h : IsDay n) → parse_date (day_text n) ≡ Ok (date_parts (date_of n h))
parse_date-day_text n h =
    ap parse_date (sym (date_text-day_text (date_of n h) n h (date_of-epoch_day n h))) ∙ parse_date-date_text (date_of n h)

-- jiff does not refuse a day's text
pub day_text-not_refused : (text : List ℕ) (n : ℕ) (e : Error) → date_view (Err e) ≡ parse_date text → IsDay n → text ≡ day_text n → ⊥
day_text-not_refused text n e refused h is =
    let read = rw (← is) at (parse_date-day_text n h) in
    err≢ok (refused ∙ read)

-- jiff reads a day's text as that day
pub day_text-read : (text : List ℕ) (n : ℕ) (d : Date) → date_view (Ok d) ≡ parse_date text → IsDay n → text ≡ day_text n → epoch_day d ≡ pos n
day_text-read text n d read h is =
    let same : date_parts d ≡ date_parts (date_of n h) = value_same (parse_date text) (sym read) (rw (← is) at (parse_date-day_text n h)) in
    epoch_day_same d (date_of n h) (ap (λ p. p.year) same) (ap (λ p. p.month) same) (ap (λ p. p.day) same) ∙ date_of-epoch_day n h

-- `of_number` returns the day of a number in the calendar
pub some_is : (found : Option ℕ) (k n : ℕ) → (IsNone found → IsDay k → ⊥) → IfSome found (λ day. IsDay k × (day ≡ k)) → IsDay n → k ≡ n → found ≡ Some n
some_is None k n none value day same = absurd (none refl (rw same day))
some_is (Some x) k n none value day same = rw (value.1, same) refl

-- the year of a day's date
pub date_year : (d : Date) (n : ℕ) → IsDay n → epoch_day d ≡ pos n → d.year ≡ pos (month_of n / 12)
date_year d n h e = (date_parts_are d n h e).0

-- the month of a day's date
pub date_month : (d : Date) (n : ℕ) → IsDay n → epoch_day d ≡ pos n → d.month ≡ month_of n % 12 + 1
date_month d n h e = (date_parts_are d n h e).1

-- the day of the month of a day's date
pub date_day : (d : Date) (n : ℕ) → IsDay n → epoch_day d ≡ pos n → d.day ≡ place_of n + 1
date_day d n h e = (date_parts_are d n h e).2

-- for the body of `Day::date`
pub ruleset date_of_day = (date_year, date_month, date_day)

-- for the bodies of `Day::month` and `Day::day_of_month`
pub ruleset month_of_day = (month_of-is, month_of-only, month_of-month, place_bound, month_length_bounds)

-- zero with either sign is 0
signed_zero : (b : Bool) (n : ℕ) → n ≡ 0 → signed b n ≡ pos 0
signed_zero true n h = rw h refl
signed_zero false n h = rw h refl

-- adding a span of months to a date adds the months
date_add-months : (d : Date) (k : ℤ) (s : Span) → IsOnly Month k s → date_add d s ≡ add_months d k
date_add-months d k s h =
    let months : span_months s ≡ k = omega (arith, signed_arith, h.months) in
    let days : span_days s ≡ pos 0 = omega (arith, signed_arith, h.days) in
    let none = h.others in
    let clock : clock_days s ≡ pos 0 =
    signed_zero s.negative _ (omega (
      arith,
      none Hour (omega arith),
      none Minute (omega arith),
      none Second (omega arith),
      none Millisecond (omega arith),
      none Microsecond (omega arith),
      none Nanosecond (omega arith),
    )) in
    rw (months, days, clock) (omega (arith, signed_arith))

-- the date some months later is at the same place of its month, or at that month's end
add_months-day_at : (d : Date) (n k : ℕ) → IsDay n → epoch_day d ≡ pos n → add_months d (pos k) ≡ pos (day_at (month_of n + k) (place_of n))
unfolding month_length
add_months-day_at d n k h e =
    let are = date_parts_are d n h e in
    let month = month_of-month n h in
    let m = month_of n + k in
    let number : month_number d +ℤ pos k ≡ pos (m / 12) *ℤ pos 12 +ℤ pos (m % 12 + 1 - 1) = rw (are.0, are.1) (omega (arith, signed_arith)) in
    let year : shifted_year d (pos k) ≡ pos (m / 12) = omega (arith, signed_arith) in
    let month_is : shifted_month d (pos k) ≡ m % 12 + 1 = omega (arith, signed_arith) in
    let long = month_length_bounds m in
    let day : min d.day (days_in_month (pos (m / 12)) (m % 12 + 1)) ≡ min (place_of n) (month_length m - 1) + 1 = rw are.2 (omega arith) in
    rw (year, month_is, day) (days_from_civil-place m (min (place_of n) (month_length m - 1)) (omega arith))

-- adding a span of months to a day's date is `day_at`
pub date_add-later : (d : Date) (n k : ℕ) (s : Span) → IsDay n → epoch_day d ≡ pos n → IsOnly Month (pos k) s
    → date_add d s ≡ pos (day_at (month_of n + k) (place_of n))
date_add-later d n k s h e only = date_add-months d (pos k) s only ∙ add_months-day_at d n k h e

-- jiff can add at most as many months as the calendar has
pub can_add-later : (d : Date) (n k : ℕ) (s : Span) → IsDay n → epoch_day d ≡ pos n → k ≤ 25_199 → IsOnly Month (pos k) s → CanAddToDate d s
can_add-later d n k s h e bound only =
    let are = date_parts_are d n h e in
    let month = month_of-month n h in
    let m = month_of n + k in
    let months : span_months s ≡ pos k = omega (arith, signed_arith, only.months) in
    let number : month_number d +ℤ pos k ≡ pos (m / 12) *ℤ pos 12 +ℤ pos (m % 12 + 1 - 1) = rw (are.0, are.1) (omega (arith, signed_arith)) in
    let year : shifted_year d (pos k) ≡ pos (m / 12) = omega (arith, signed_arith) in
    let month_is : shifted_month d (pos k) ≡ m % 12 + 1 = omega (arith, signed_arith) in
    let near = first_day-near m (omega arith) in
    let long = month_length_bounds m in (
      rw (months, year) (omega (arith, signed_arith), omega (arith, signed_arith)),
      rw (date_add-later d n k s h e only) (omega (arith, signed_arith), omega (arith, signed_arith)),
    )

-- a date with the parts of a month's first day has its day number
pub epoch_day-first : (d : Date) (m : ℕ) → IsMonth m → IsYmd (pos (m / 12)) (pos (m % 12 + 1)) (pos 1) d → epoch_day d ≡ pos (first_day m)
epoch_day-first d m h is = omega (arith, signed_arith, epoch_day-place d m 0 (omega arith) is.0 (omega (arith, signed_arith, is.1)) (omega (arith, signed_arith, is.2)))

-- a date with the parts of a month's last day has its day number
pub epoch_day-last : (d first : Date) (m : ℕ) → IsMonth m → IsYmd (pos (m / 12)) (pos (m % 12 + 1)) (pos 1) first
    → IsYmd first.year (pos first.month) (pos (length_of first)) d → epoch_day d ≡ pos (last_day m)
unfolding month_length
epoch_day-last d first m h is last =
    let long = month_length_bounds m in
    let month : first.month ≡ m % 12 + 1 = omega (arith, signed_arith, is.1) in
    let length : length_of first ≡ month_length m = rw (is.0, month) refl in
    let there : first_day m + (month_length m - 1) ≡ last_day m = omega arith in
    rw (← there) (epoch_day-place d m (month_length m - 1) (omega arith) (last.0 ∙ is.0) (omega (arith, signed_arith, last.1, month)) (omega (arith, signed_arith, last.2, length)))

-- for the bodies of `Month`
pub ruleset dates = (epoch_day-first, epoch_day-last, first_day-next, first_day-civil, month_length_bounds, month_bounds)
