-- The summary of earlier months decides whether a month is quarterly.
use Rattle.std.proofs.Common.{◌≡◌, ℕ, ◌+◌, ◌-◌, ◌<◌, ◌≤◌, Bool, true, false, not, ◌&&◌, ◌||◌, nat_lt, nat_le, Option, Some, None, IfSome, List, [], ◌∷◌, ◌++◌}
use Rattle.std.proofs.Common.{take, drop, refl, sym, ap, ◌∙◌, inl, inr, arith}
use Rattle.std.specs.List.{AllByRecursion}
use Rattle.std.proofs.lemmas.Bool.{cases_lt, false≢true, not-true, and_parts, and_from, and_right, or_cases, or_from, or_left, leb-true, le-leb, lt-leb}
use Rattle.std.proofs.lemmas.Bool.{ltb-true, lt-ltb, eqb-true, ne_eqb, not_from_false}
use Rattle.std.proofs.lemmas.List.{take-append-drop}
use Rattle.std.proofs.lemmas.List.Folds.{list_any-append}
use Rattle.ldar_days.specs.Calendar.{month_of}
use Rattle.ldar_days.specs.Quarters.{first_quarter}
use Rattle.ldar_law.specs.declared.event.Event.{Event}
use Rattle.ldar_law.specs.Happenings.{is_leak, is_routine_below, is_in_month}
use Rattle.ldar_law.specs.Months.{has_leak_in, is_clean, is_clean_twice, is_quarterly, quarter_start}
use Rattle.ldar_law.proofs.MonthLemmas.{quarterly_decides}
use Rattle.ldar_law.proofs.TestLemmas.{list_any_implied, passing}
use Rattle.monitor_calendar.specs.Behind.{Tells, IsBy, leaks_from, reads_in, lets_after, lets_be_quarterly}
use Rattle.monitor_calendar.specs.declared.past_months.PastMonths.{PastMonths}
use Rattle.monitor_calendar.proofs.Rising.{month_low}

-- two tests that imply each other are equal
same_test : (a b : Bool) → (a ≡ true → b ≡ true) → (b ≡ true → a ≡ true) → a ≡ b
same_test true b to from = sym (to refl)
same_test false true to from = from refl
same_test false false to from = refl

-- a test that implies a failing one fails
fails_with : (a b : Bool) → (a ≡ true → b ≡ true) → b ≡ false → a ≡ false
fails_with true b to fails = sym (to refl) ∙ fails
fails_with false b to fails = refl

-- a disjunction with true
or_true : (b : Bool) → (b || true) ≡ true
or_true true = refl
or_true false = refl

-- a month with a reading is a month of the calendar
is_month : (events : List Event) (k : ℕ) → reads_in events k ≡ true → 23_640 ≤ k
is_month events k read =
    let some = passing (λ e. is_routine_below e.what && is_in_month k e) events read in
    let at : month_of some.0.key.day ≡ k = eqb-true (month_of some.0.key.day) k (and_parts (is_routine_below some.0.what) (is_in_month k some.0) some.1).1 in
    omega (arith, at, month_low some.0.key.day)

module _ (startup month : ℕ) (past : PastMonths) (last : ℕ) (front rest : List Event)
    (before : AllByRecursion (λ e. month_of e.key.day < month) front) (behind : AllByRecursion (λ e. month ≤ month_of e.key.day) rest)
    (tells : Tells past last front) where
  -- no later event is in an earlier month
  none_read : (events : List Event) (k : ℕ) → AllByRecursion (λ e. month ≤ month_of e.key.day) events → k < month → reads_in events k ≡ false
  none_read [] k all lt = refl
  none_read (e ∷ es) k all lt =
      or_from (is_routine_below e.what && is_in_month k e) (reads_in es k)
      (and_right (is_routine_below e.what) (is_in_month k e) (ne_eqb (month_of e.key.day) k (λ at. omega (arith, at, all.0, lt))))
      (none_read es k all.1 lt)

  -- no later leak is in an earlier month
  none_leaks : (events : List Event) (low high : ℕ) → AllByRecursion (λ e. month ≤ month_of e.key.day) events → high < month →
      has_leak_in events low high ≡ false
  unfolding has_leak_in
  none_leaks [] low high all lt = refl
  none_leaks (e ∷ es) low high all lt =
      or_from (is_leak e.what && nat_le low (month_of e.key.day) && nat_le (month_of e.key.day) high) (has_leak_in es low high)
      (and_right (is_leak e.what && nat_le low (month_of e.key.day)) (nat_le (month_of e.key.day) high) (lt-leb (month_of e.key.day) high (omega
      (arith, all.0, lt))))
      (none_leaks es low high all.1 lt)

  -- a reading in an earlier month is among the earlier events
  read_before : (k : ℕ) → k < month → reads_in (front ++ rest) k ≡ true → reads_in front k ≡ true
  read_before k lt read =
      elim (or_cases (reads_in front k) (reads_in rest k) (sym (list_any-append (λ e. is_routine_below e.what && is_in_month k e) front rest) ∙ read)) [
        | inl is ↦ is
        | inr later ↦ absurd (false≢true (sym (none_read rest k behind lt) ∙ later))
      ]

  -- a reading among the earlier events is among all
  read_after : (k : ℕ) → reads_in front k ≡ true → reads_in (front ++ rest) k ≡ true
  read_after k read = list_any-append (λ e. is_routine_below e.what && is_in_month k e) front rest ∙ or_left (reads_in front k) (reads_in rest k) read

  -- the leaks from a month on, up to the month before this one
  leaks_before : (events : List Event) (low : ℕ) → AllByRecursion (λ e. month_of e.key.day < month) events → leaks_from events low ≡ true →
      has_leak_in events low (month - 1) ≡ true
  unfolding has_leak_in
  leaks_before [] low all leaks = leaks
  leaks_before (e ∷ es) low all leaks =
      elim (or_cases (is_leak e.what && nat_le low (month_of e.key.day)) (leaks_from es low) leaks) [
        | inl this ↦
            or_left (is_leak e.what && nat_le low (month_of e.key.day) && nat_le (month_of e.key.day) (month - 1)) (has_leak_in es low (month - 1))
            (and_from (is_leak e.what && nat_le low (month_of e.key.day)) (nat_le (month_of e.key.day) (month - 1)) this
            (le-leb (month_of e.key.day) (month - 1) (omega (arith, all.0))))
        | inr there ↦ rw (leaks_before es low all.1 there) (or_true (is_leak e.what && nat_le low (month_of e.key.day) && nat_le (month_of e.key.day)
            (month - 1)))
      ]

  -- no leak is after the last one
  no_leak : (low high : ℕ) → past.leak < low → high < month → has_leak_in (front ++ rest) low high ≡ false
  unfolding has_leak_in
  no_leak low high lt within =
      list_any-append (λ e. is_leak e.what && nat_le low (month_of e.key.day) && nat_le (month_of e.key.day) high) front rest
      ∙ or_from (has_leak_in front low high) (has_leak_in rest low high)
      (fails_with (has_leak_in front low high) (leaks_from front low)
      (list_any_implied (λ e. is_leak e.what && nat_le low (month_of e.key.day) && nat_le (month_of e.key.day) high)
      (λ e. is_leak e.what && nat_le low (month_of e.key.day))
      (λ e passes. (and_parts (is_leak e.what && nat_le low (month_of e.key.day)) (nat_le (month_of e.key.day) high) passes).0)
      front)
      (tells.leak low (omega (arith, lt)) ∙ lt-leb low past.leak lt))
      (none_leaks rest low high behind within)

  -- a month from which on there is no leak is after the last leak
  after_leak : (low : ℕ) → 0 < low → has_leak_in (front ++ rest) low (month - 1) ≡ false → past.leak < low
  unfolding has_leak_in
  after_leak low pos none =
      elim (cases_lt past.leak low) [
        | inl lt ↦ lt
        | inr by ↦
            let leaks : leaks_from front low ≡ true = tells.leak low pos ∙ le-leb low past.leak by in
            absurd (false≢true (sym none
            ∙ (list_any-append (λ e. is_leak e.what && nat_le low (month_of e.key.day) && nat_le (month_of e.key.day) (month - 1)) front rest
            ∙ or_left (has_leak_in front low (month - 1)) (has_leak_in rest low (month - 1)) (leaks_before front low before leaks))))
      ]

  -- a month after the last leak with a reading below is clean
  clean_after : (k : ℕ) → past.leak < k → k < month → reads_in front k ≡ true → is_clean (front ++ rest) k ≡ true
  unfolding is_clean
  clean_after k lt within read =
      and_from (reads_in (front ++ rest) k) (not (has_leak_in (front ++ rest) k k)) (read_after k read) (not_from_false (has_leak_in
      (front ++ rest) k k) (no_leak k k lt within))

  -- a clean month has a reading below
  clean_reads : (k : ℕ) → is_clean (front ++ rest) k ≡ true → reads_in (front ++ rest) k ≡ true
  unfolding is_clean
  clean_reads k clean = (and_parts (reads_in (front ++ rest) k) (not (has_leak_in (front ++ rest) k k)) clean).0

  -- the quarter begins by the month
  starts_by : first_quarter startup ≤ month → quarter_start startup month ≤ month
  starts_by from = omega arith

  -- two months in a row before the quarter make the month quarterly, and so do earlier ones
  lets_by : (o : Option ℕ) (k : ℕ) → IsBy o k → first_quarter startup ≤ month → k + 1 < quarter_start startup month → lets_after o startup month ≡ true
  lets_by None k by from lt = absurd by
  lets_by (Some p) k by from lt =
      and_from (nat_le (first_quarter startup) month) (nat_lt p (quarter_start startup month - 1))
      (le-leb (first_quarter startup) month from) (lt-ltb p (quarter_start startup month - 1) (omega (arith, by, lt)))

  -- if the month is quarterly, the first two months make it so
  to_let : is_quarterly startup (front ++ rest) month ≡ true → lets_be_quarterly past startup month ≡ true
  to_let is =
      let there = (quarterly_decides startup (front ++ rest) month).0 is in
      let k = there.1.0 in
      let parts = and_parts (nat_lt (k + 1) (quarter_start startup month) && is_clean_twice (front ++ rest) k) (not (has_leak_in (front ++ rest) k
      (month - 1))) there.1.1 in
      let begun = and_parts (nat_lt (k + 1) (quarter_start startup month)) (is_clean_twice (front ++ rest) k) parts.0 in
      let clean = and_parts (is_clean (front ++ rest) k) (is_clean (front ++ rest) (k + 1)) begun.1 in
      let lt : k + 1 < quarter_start startup month = ltb-true (k + 1) (quarter_start startup month) begun.0 in
      let from : first_quarter startup ≤ month = there.0 in
      let by : quarter_start startup month ≤ month = starts_by from in
      let here : reads_in front k ≡ true = read_before k (omega (arith, lt, by)) (clean_reads k clean.0) in
      let next : reads_in front (k + 1) ≡ true = read_before (k + 1) (omega (arith, lt, by)) (clean_reads (k + 1) clean.1) in
      let pos : 23_640 ≤ k = is_month front k here in
      let after : past.leak < k = after_leak k (omega (arith, pos)) (not-true (has_leak_in (front ++ rest) k (month - 1)) parts.1) in
      lets_by past.pair k (tells.first k after here next) from lt

  -- if the first two months make it quarterly, it is
  from_pair : (o : Option ℕ) → IfSome o (λ k. (past.leak < k) × (reads_in front k ≡ true) × (reads_in front (k + 1) ≡ true))
      → lets_after o startup month ≡ true → is_quarterly startup (front ++ rest) month ≡ true
  from_pair None holds lets = absurd (false≢true lets)
  from_pair (Some p) holds lets =
      let parts = and_parts (nat_le (first_quarter startup) month) (nat_lt p (quarter_start startup month - 1)) lets in
      let from : first_quarter startup ≤ month = leb-true (first_quarter startup) month parts.0 in
      let by : quarter_start startup month ≤ month = starts_by from in
      let lt : p < quarter_start startup month - 1 = ltb-true p (quarter_start startup month - 1) parts.1 in
      let after : past.leak < p = holds.0 in
      let clean = and_from (is_clean (front ++ rest) p) (is_clean (front ++ rest) (p + 1))
      (clean_after p after (omega (arith, lt, by)) holds.1) (clean_after (p + 1) (omega (arith, after)) (omega (arith, lt, by)) holds.2) in
      (quarterly_decides startup (front ++ rest) month).1 (
        from,
        (
          p,
          and_from (nat_lt (p + 1) (quarter_start startup month) && is_clean_twice (front ++ rest) p) (not (has_leak_in (front ++ rest) p (month - 1)))
              (and_from (nat_lt (p + 1) (quarter_start startup month)) (is_clean_twice (front ++ rest) p) (lt-ltb (p + 1)
              (quarter_start startup month) (omega (arith, lt))) clean)
              (not_from_false (has_leak_in (front ++ rest) p (month - 1)) (no_leak p (month - 1) after (omega (arith, lt, by)))),
        ),
      )

  -- the summary decides
  pub quarterly_told : lets_be_quarterly past startup month ≡ is_quarterly startup (front ++ rest) month
  quarterly_told =
      same_test (lets_be_quarterly past startup month) (is_quarterly startup (front ++ rest) month) (from_pair past.pair tells.pair) to_let

-- the same for a place among events
pub quarterly_at : (startup month : ℕ) (past : PastMonths) (last : ℕ) (events : List Event) (place : ℕ)
    → AllByRecursion (λ e. month_of e.key.day < month) (take place events) → AllByRecursion (λ e. month ≤ month_of e.key.day) (drop place events)
    → Tells past last (take place events) → lets_be_quarterly past startup month ≡ is_quarterly startup events month
quarterly_at startup month past last events place before behind tells =
    quarterly_told startup month past last (take place events) (drop place events) before behind tells
    ∙ ap (λ es. is_quarterly startup es month) (take-append-drop place events)
