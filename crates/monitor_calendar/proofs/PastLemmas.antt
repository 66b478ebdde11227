-- The summary of past months with one more event.
use Rattle.std.proofs.Common.{◌≡◌, ◌⊎◌, ℕ, ◌+◌, ◌-◌, ◌<◌, ◌≤◌, Bool, true, false, ◌&&◌}
use Rattle.std.proofs.Common.{◌||◌, nat_eq, nat_le, Option, Some, None, is_some, IfSome, List, [], ◌∷◌, ◌++◌}
use Rattle.std.proofs.Common.{refl, sym, ap, subst, ◌∙◌, inl, inr, arith}
use Rattle.std.specs.List.{AllByRecursion, list_any}
use Rattle.std.proofs.lemmas.Bool.{cases_Bool, cases_lt, cases_eq, false≢true, and_parts, and_from, and_right, or_cases, or_parts, or_from, or_left, or_right}
use Rattle.std.proofs.lemmas.Bool.{leb-true, leb-false, le-leb, lt-leb, eqb-true, eq-eqb}
use Rattle.std.proofs.lemmas.Bool.Decides.{nat_tests}
use Rattle.std.proofs.lemmas.List.Folds.{list_any-append}
use Rattle.list_words.proofs.Members.{all_append, all_weaker}
use Rattle.ldar_days.specs.Calendar.{month_of}
use Rattle.ldar_law.specs.declared.event.Event.{Event}
use Rattle.ldar_law.specs.Happenings.{is_leak, is_routine_below, is_in_month}
use Rattle.ldar_law.proofs.TestLemmas.{list_any_implied}
use Rattle.monitor_calendar.specs.Behind.{Tells, IsBy, leaks_from, reads_from, reads_in, pair_from, pair_with}
use Rattle.monitor_calendar.specs.declared.past_months.PastMonths.{PastMonths}
use Rattle.monitor_calendar.proofs.Rising.{month_low}

-- ---- tests of events

-- a disjunction with false
or_false : (b : Bool) → (b || false) ≡ b
or_false true = refl
or_false false = refl

-- a test of events with one more
pub one_more : (p : Event → Bool) (events : List Event) (e : Event) → list_any p (events ++ e ∷ []) ≡ (list_any p events || p e)
one_more p events e = list_any-append p events (e ∷ []) ∙ ap (λ b. list_any p events || b) (or_false (p e))

-- events of months up to one have nothing in a later month
pub none_later : (q : Event → Bool) (events : List Event) (last low : ℕ) → AllByRecursion (λ e. month_of e.key.day ≤ last) events → last < low →
    list_any (λ e. q e && nat_le low (month_of e.key.day)) events ≡ false
none_later q [] last low all lt = refl
none_later q (e ∷ es) last low all lt =
    or_from (q e && nat_le low (month_of e.key.day)) (list_any (λ x. q x && nat_le low (month_of x.key.day)) es)
    (and_right (q e) (nat_le low (month_of e.key.day)) (lt-leb low (month_of e.key.day) (omega (arith, all.0, lt))))
    (none_later q es last low all.1 lt)

-- a reading in a month is a reading from that month on
pub read_from : (events : List Event) (month : ℕ) → reads_in events month ≡ true → reads_from events month ≡ true
read_from events month read =
    list_any_implied (λ e. is_routine_below e.what && is_in_month month e) (λ e. is_routine_below e.what && nat_le month (month_of e.key.day))
    (λ e passes. let parts = and_parts (is_routine_below e.what) (is_in_month month e) passes in
    and_from (is_routine_below e.what) (nat_le month (month_of e.key.day)) parts.0
    (le-leb month (month_of e.key.day) (omega (arith, eqb-true (month_of e.key.day) month parts.1))))
    events
    read

-- a bound that holds for a number but not for the next
exactly : (b : Bool) (m n : ℕ) → (b && nat_le m n) ≡ true → (b && nat_le (m + 1) n) ≡ false → (b && nat_eq n m) ≡ true
exactly true m n here none = eq-eqb n m (omega (arith, leb-true m n here, leb-false (m + 1) n none))
exactly false m n here none = here

-- a reading from a month on, and not from the next one on, is in the month
read_exactly : (events : List Event) (month : ℕ) → reads_from events month ≡ true → reads_from events (month + 1) ≡ false → reads_in events month ≡ true
read_exactly [] month here none = here
read_exactly (e ∷ es) month here none =
    let parts = or_parts (is_routine_below e.what && nat_le (month + 1) (month_of e.key.day)) (reads_from es (month + 1)) none in
    elim (or_cases (is_routine_below e.what && nat_le month (month_of e.key.day)) (reads_from es month) here) [
      | inl this ↦ or_left (is_routine_below e.what && is_in_month month e) (reads_in es month)
          (exactly (is_routine_below e.what) month (month_of e.key.day) this parts.0)
      | inr there ↦ or_right (is_routine_below e.what && is_in_month month e) (reads_in es month) (read_exactly es month there parts.1)
    ]

-- a bound by one of two numbers is a bound by the larger
or_le : (a b low : ℕ) → a ≤ b → (nat_le low a || nat_le low b) ≡ nat_le low b
or_le a b low le = grind (arith, nat_tests)

-- a property of an optional value that follows from another
if_some : {X : Type 0} (P Q : X → Type 0) (o : Option X) → ((x : X) → P x → Q x) → IfSome o P → IfSome o Q
if_some P Q None implies h = h
if_some P Q (Some x) implies h = implies x h

-- two months in a row stay when a month is added
keeps : (o : Option ℕ) (below month : ℕ) → is_some o ≡ true → pair_from o below month ≡ o
keeps None below month e = absurd (false≢true e)
keeps (Some p) below month e = refl

-- if there are none with the new month, there were none before
no_pair : (o : Option ℕ) (below month : ℕ) → pair_from o below month ≡ None → o ≡ None
no_pair None below month e = refl
no_pair (Some p) below month e = e

-- an option is not both `Some` and `None`
not_both : (o : Option ℕ) → is_some o ≡ true → o ≡ None → (a b : Bool) → a ≡ b
not_both None e none a b = absurd (false≢true e)
not_both (Some p) e none a b = cc

-- the summary of no events
pub told_nothing : Tells (record { leak = 0; below = 0; pair = None }) 0 []
told_nothing = record {
  up_to = tt;
  leak_by = omega arith;
  below_by = omega arith;
  leak = λ low pos. sym (lt-leb low 0 pos);
  below = λ low pos none. sym (lt-leb low 0 pos);
  since = λ h. absurd (omega (arith, h));
  first = λ k pos here next. absurd (false≢true here);
  pair = tt;
}

-- a test that fails if a month is later, or the month is not later
or_later : (b : Bool) (low month : ℕ) → (month < low → b ≡ false) → (b || nat_le low month) ≡ nat_le low month
or_later b low month fails =
    elim (cases_lt month low) [
      | inl later ↦ rw (fails later) refl
      | inr by ↦ or_right b (nat_le low month) (le-leb low month by) ∙ sym (le-leb low month by)
    ]

-- the summary after a leak is the same whatever came before it, in a month that is not earlier
pub told_leak : (front : List Event) (e : Event) → AllByRecursion (λ x. month_of x.key.day ≤ month_of e.key.day) front → is_leak e.what ≡ true →
    Tells (record { leak = month_of e.key.day; below = 0; pair = None }) (month_of e.key.day) (front ++ e ∷ [])
told_leak front e all leaks =
    let month = month_of e.key.day in
    let more = front ++ e ∷ [] in
    let up_to : AllByRecursion (λ x. month_of x.key.day ≤ month) more =
    all_append (λ x. month_of x.key.day ≤ month) front (e ∷ []) all (omega arith, tt) in
    record {
      up_to = up_to;
      leak_by = omega arith;
      below_by = omega arith;
      leak = λ low pos.
          one_more (λ x. is_leak x.what && nat_le low (month_of x.key.day)) front e
          ∙ rw leaks (or_later (leaks_from front low) low month (none_later (λ x. is_leak x.what) front month low all));
      below = λ low lt none. none_later (λ x. is_routine_below x.what) more month low up_to lt ∙ sym (lt-leb low 0 (omega (arith, lt)));
      since = λ h. absurd (omega (arith, h));
      first = λ k lt here next.
          absurd (false≢true (sym (none_later (λ x. is_routine_below x.what) more month k up_to lt) ∙ read_from more k here));
      pair = tt;
    }

-- ---- one more event

module _ (past : PastMonths) (last : ℕ) (front : List Event) (e : Event) (tells : Tells past last front) (le : last ≤ month_of e.key.day) where
  -- the month of the new event
  abbrev month : ℕ
  month = month_of e.key.day

  -- the events with the new one
  abbrev more : List Event
  more = front ++ e ∷ []

  -- none is of a later month
  up_to : AllByRecursion (λ x. month_of x.key.day ≤ month) more
  up_to =
      all_append (λ x. month_of x.key.day ≤ month) front (e ∷ [])
      (all_weaker (λ x. month_of x.key.day ≤ last) (λ x. month_of x.key.day ≤ month) (λ x by. omega (arith, by, le)) front tells.up_to)
      (omega arith, tt)

  -- leaks from a month on, with the new event
  leaks_more : (low : ℕ) → 0 < low → leaks_from more low ≡ (nat_le low past.leak || (is_leak e.what && nat_le low month))
  leaks_more low pos =
      one_more (λ x. is_leak x.what && nat_le low (month_of x.key.day)) front e
      ∙ ap (λ b. b || (is_leak e.what && nat_le low month)) (tells.leak low pos)

  -- readings below from a month on, with the new event
  reads_more : (low : ℕ) → past.leak < low → past.pair ≡ None → reads_from more low ≡ (nat_le low past.below || (is_routine_below e.what && nat_le low month))
  reads_more low lt none =
      one_more (λ x. is_routine_below x.what && nat_le low (month_of x.key.day)) front e
      ∙ ap (λ b. b || (is_routine_below e.what && nat_le low month)) (tells.below low lt none)

  -- readings below in a month, with the new event
  read_more : (k : ℕ) → reads_in more k ≡ (reads_in front k || (is_routine_below e.what && nat_eq month k))
  read_more k = one_more (λ x. is_routine_below x.what && is_in_month k x) front e

  -- old readings stay
  stays : (k : ℕ) → reads_in front k ≡ true → reads_in more k ≡ true
  stays k read = read_more k ∙ or_left (reads_in front k) (is_routine_below e.what && nat_eq month k) read

  -- a reading is in a month up to the last one
  by_last : (k : ℕ) → reads_in front k ≡ true → k ≤ last
  by_last k read =
      elim (cases_lt last k) [
        | inl later ↦ absurd (false≢true (sym (none_later (λ x. is_routine_below x.what) front last k tells.up_to later) ∙ read_from front k read))
        | inr by ↦ by
      ]

  -- a reading, with the new one, is in a month up to the new event's
  by_month : (k : ℕ) → reads_in more k ≡ true → k ≤ month
  by_month k read =
      elim (cases_lt month k) [
        | inl later ↦ absurd (false≢true (sym (none_later (λ x. is_routine_below x.what) more month k up_to later) ∙ read_from more k read))
        | inr by ↦ by
      ]

  -- the event is no leak, and no reading below in a month after the last leak
  nothing_read : (k : ℕ) → past.leak < k → (month ≤ past.leak) ⊎ (is_routine_below e.what ≡ false) → reads_in more k ≡ true → reads_in front k ≡ true
  nothing_read k lt none read =
      elim (or_cases (reads_in front k) (is_routine_below e.what && nat_eq month k) (sym (read_more k) ∙ read)) [
        | inl was ↦ was
        | inr is ↦ let parts = and_parts (is_routine_below e.what) (nat_eq month k) is in elim none [
          | inl early ↦ absurd (omega (arith, lt, early, eqb-true month k parts.1))
          | inr fails ↦ absurd (false≢true (sym fails ∙ parts.0))
        ]
      ]

  -- the same for all months from one on
  nothing_below : (low : ℕ) → past.leak < low → (month ≤ past.leak) ⊎ (is_routine_below e.what ≡ false) →
      (is_routine_below e.what && nat_le low month) ≡ false
  nothing_below low lt none =
      elim none [
        | inl early ↦ and_right (is_routine_below e.what) (nat_le low month) (lt-leb low month (omega (arith, lt, early)))
        | inr fails ↦ rw fails refl
      ]

  -- such an event does not change the summary
  pub told_same : is_leak e.what ≡ false → (month ≤ past.leak) ⊎ (is_routine_below e.what ≡ false) → Tells past month more
  told_same sound none = record {
    up_to = up_to;
    leak_by = omega (arith, tells.leak_by, le);
    below_by = omega (arith, tells.below_by, le);
    leak = λ low pos. leaks_more low pos ∙ rw sound (or_false (nat_le low past.leak));
    below = λ low lt unpaired. reads_more low lt unpaired ∙ rw (nothing_below low lt none) (or_false (nat_le low past.below));
    since = tells.since;
    first = λ k lt here next. tells.first k lt (nothing_read k lt none here) (nothing_read (k + 1) (omega (arith, lt)) none next);
    pair =
        if_some (λ k. (past.leak < k) × (reads_in front k ≡ true) × (reads_in front (k + 1) ≡ true))
        (λ k. (past.leak < k) × (reads_in more k ≡ true) × (reads_in more (k + 1) ≡ true)) past.pair
        (λ k h. (h.0, stays k h.1, stays (k + 1) h.2)) tells.pair;
  }

  -- the last month with a reading has one
  read_last : (k : ℕ) → past.pair ≡ None → past.leak < k → k ≡ past.below → reads_in front k ≡ true
  read_last k none lt e =
      read_exactly front k
      (tells.below k lt none ∙ le-leb k past.below (omega (arith, e)))
      (tells.below (k + 1) (omega (arith, lt)) none ∙ lt-leb (k + 1) past.below (omega (arith, e)))

  -- the first two months, with a reading below in a month after the last leak
  first_with : (o : Option ℕ) → past.pair ≡ o → past.leak < month
      → ((k : ℕ) → past.leak < k → reads_in front k ≡ true → reads_in front (k + 1) ≡ true → IsBy o k)
      → IfSome o (λ k. (past.leak < k) × (reads_in front k ≡ true) × (reads_in front (k + 1) ≡ true))
      → (k : ℕ) → past.leak < k → reads_in front k ≡ true → month ≡ k + 1 → IsBy (pair_from o past.below month) k
  first_with (Some p) same after old holds k lt here at = omega (arith, at, by_last (p + 1) holds.2, le)
  first_with None none after old holds k lt here at =
      let from : nat_le k past.below ≡ true = sym (tells.below k lt none) ∙ read_from front k here in
      let low : k ≤ past.below = leb-true k past.below from in
      let high : past.below ≤ k + 1 = omega (arith, tells.below_by, le, at) in
      elim (cases_eq past.below k) [
        | inl same ↦ rw (eq-eqb (month - 1) past.below (omega (arith, same, at))) (omega (arith, same))
        | inr other ↦ absurd (old k lt here (read_last (k + 1) none (omega (arith, lt)) (omega (arith, low, high, other))))
      ]

  -- two months in a row stay until a leak
  pub told_paired : is_some past.pair ≡ true → is_leak e.what ≡ false → Tells past month more
  told_paired paired sound = record {
    up_to = up_to;
    leak_by = omega (arith, tells.leak_by, le);
    below_by = omega (arith, tells.below_by, le);
    leak = λ low pos. leaks_more low pos ∙ rw sound (or_false (nat_le low past.leak));
    below = λ low lt none. not_both past.pair paired none (reads_from more low) (nat_le low past.below);
    since = tells.since;
    first = λ k lt here next.
        elim (or_cases (reads_in front k) (is_routine_below e.what && nat_eq month k) (sym (read_more k) ∙ here)) [
          | inl was ↦ elim (or_cases (reads_in front (k + 1)) (is_routine_below e.what && nat_eq month (k + 1)) (sym (read_more (k + 1)) ∙ next)) [
            | inl also ↦ tells.first k lt was also
            | inr is ↦
                let at : month ≡ k + 1 = eqb-true month (k + 1) (and_parts (is_routine_below e.what) (nat_eq month (k + 1)) is).1 in
                subst (λ o. IsBy o k) (keeps past.pair past.below month paired)
                (first_with past.pair refl (omega (arith, lt, at)) tells.first tells.pair k lt was at)
          ]
          | inr is ↦ absurd (omega (arith, by_month (k + 1) next, eqb-true month k (and_parts (is_routine_below e.what) (nat_eq month k) is).1))
        ];
    pair =
        if_some (λ k. (past.leak < k) × (reads_in front k ≡ true) × (reads_in front (k + 1) ≡ true))
        (λ k. (past.leak < k) × (reads_in more k ≡ true) × (reads_in more (k + 1) ≡ true)) past.pair
        (λ k h. (h.0, stays k h.1, stays (k + 1) h.2)) tells.pair;
  }

  -- two months in a row stay
  old_pair : (o : Option ℕ) (k : ℕ) → IsBy o k → IsBy (pair_from o past.below month) k
  old_pair (Some p) k by = by
  old_pair None k by = absurd by

  -- the first two months have such readings
  pair_holds : (o : Option ℕ) → past.pair ≡ o → past.leak < month → is_routine_below e.what ≡ true
      → IfSome o (λ k. (past.leak < k) × (reads_in front k ≡ true) × (reads_in front (k + 1) ≡ true))
      → IfSome (pair_from o past.below month) (λ k. (past.leak < k) × (reads_in more k ≡ true) × (reads_in more (k + 1) ≡ true))
  pair_holds (Some p) same after read holds = (holds.0, stays p holds.1, stays (p + 1) holds.2)
  pair_holds None none after read holds =
      elim (cases_Bool (nat_eq (month - 1) past.below)) [
        | inl next ↦
            let at : month - 1 ≡ past.below = eqb-true (month - 1) past.below next in
            let low : 23_640 ≤ month = month_low e.key.day in
            let since : past.leak < past.below = tells.since (omega (arith, at, low)) in
            rw next (
              since,
              stays past.below (read_last past.below none since refl),
              read_more (past.below + 1) ∙ or_right (reads_in front (past.below + 1)) (is_routine_below e.what && nat_eq month (past.below + 1))
                  (and_from (is_routine_below e.what) (nat_eq month (past.below + 1)) read (eq-eqb month (past.below + 1) (omega (arith, at, low)))),
            )
        | inr far ↦ rw far tt
      ]

  -- the summary after a reading below in a month after the last leak
  pub told_below : is_leak e.what ≡ false → past.leak < month → is_routine_below e.what ≡ true →
      Tells (record { leak = past.leak; below = month; pair = pair_with past month }) month more
  told_below sound after read = record {
    up_to = up_to;
    leak_by = omega (arith, tells.leak_by, le);
    below_by = omega arith;
    leak = λ low pos. leaks_more low pos ∙ rw sound (or_false (nat_le low past.leak));
    below = λ low lt none.
        reads_more low lt (no_pair past.pair past.below month none) ∙ rw read (or_le past.below month low (omega (arith, tells.below_by, le)));
    since = λ h. after;
    first = λ k lt here next.
        elim (or_cases (reads_in front k) (is_routine_below e.what && nat_eq month k) (sym (read_more k) ∙ here)) [
          | inl was ↦ elim (or_cases (reads_in front (k + 1)) (is_routine_below e.what && nat_eq month (k + 1)) (sym (read_more (k + 1)) ∙ next)) [
            | inl also ↦ old_pair past.pair k (tells.first k lt was also)
            | inr is ↦ first_with past.pair refl after tells.first tells.pair k lt was
                (eqb-true month (k + 1) (and_parts (is_routine_below e.what) (nat_eq month (k + 1)) is).1)
          ]
          | inr is ↦ absurd (omega (arith, by_month (k + 1) next, eqb-true month k (and_parts (is_routine_below e.what) (nat_eq month k) is).1))
        ];
    pair = pair_holds past.pair refl after read tells.pair;
  }
