-- The last two clean months in a row, with the event before.
use Rattle.std.proofs.Common.{◌≡◌, ℕ, ◌+◌, ◌<◌, ◌≤◌, Bool, true, false, not, ◌&&◌, ◌||◌, nat_eq, nat_le, List, [], ◌∷◌, ◌++◌, length, take, drop, get_or}
use Rattle.std.proofs.Common.{refl, sym, ap, subst, ◌∙◌, inl, inr, arith}
use Rattle.std.specs.List.{AllByRecursion, list_any}
use Rattle.std.proofs.lemmas.Bool.{cases_lt, cases_eq, and_parts, and_from, or_from, eq-eqb, ne_eqb, leb-true, le-leb, lt-leb, false≢true}
use Rattle.std.proofs.lemmas.Bool.Decides.{same_from_decides}
use Rattle.std.proofs.lemmas.List.{take_all, drop_all, take-append-drop}
use Rattle.std.proofs.lemmas.List.Folds.{list_any-append}
use Rattle.list_words.proofs.Members.{all_append, all_weaker}
use Rattle.ldar_days.specs.Calendar.{month_of}
use Rattle.ldar_law.specs.declared.event.Event.{Event}
use Rattle.ldar_law.specs.Happenings.{is_leak, is_routine_below, is_in_month}
use Rattle.ldar_law.specs.Months.{has_leak_in, is_clean, is_clean_twice, is_clean_twice_from}
use Rattle.ldar_law.proofs.MonthLemmas.{clean_twice_from_decides}
use Rattle.leak_tags.specs.declared.clean_months.CleanMonths.{CleanMonths}
use Rattle.leak_tags.specs.CleanPairs.{is_month_clean, is_pair, clean_of, clean_with, TellsLast, IsLastPair}
use Rattle.leak_tags.specs.Telling.{Rises}
use Rattle.leak_tags.proofs.AfterLemmas.{or_false, and_true, and_false}
use Rattle.leak_tags.proofs.TellsLemmas.{month_rises, month_low}
use Rattle.leak_tags.proofs.WalkLemmas.{rest_is, front_is}

-- a counting routine reading below the leak definition is in the month
abbrev read_in : List Event → ℕ → Bool
read_in events month = list_any (λ e. is_routine_below e.what && is_in_month month e) events

-- a month is clean if it has such a reading and no leak
clean_is : (events : List Event) (month : ℕ) → is_clean events month ≡ (read_in events month && not (has_leak_in events month month))
unfolding is_clean
clean_is events month = refl

-- months after the last one have no such reading
none_read : (events : List Event) (last month : ℕ) → AllByRecursion (λ e. month_of e.key.day ≤ last) events → last < month → read_in events month ≡ false
none_read [] last month all later = refl
none_read (e ∷ after) last month all later =
    let other : nat_eq (month_of e.key.day) month ≡ false = ne_eqb (month_of e.key.day) month (λ same. omega (arith, same, all.0, later)) in
    or_from (is_routine_below e.what && is_in_month month e) (read_in after month)
    (ap (λ b. is_routine_below e.what && b) other ∙ and_false (is_routine_below e.what)) (none_read after last month all.1 later)

-- months after the last one have no leak
none_leaks : (events : List Event) (last month : ℕ) → AllByRecursion (λ e. month_of e.key.day ≤ last) events → last < month →
    list_any (λ e. is_leak e.what && nat_le month (month_of e.key.day) && nat_le (month_of e.key.day) month) events ≡ false
none_leaks [] last month all later = refl
none_leaks (e ∷ after) last month all later =
    let below : nat_le month (month_of e.key.day) ≡ false = lt-leb month (month_of e.key.day) (omega (arith, all.0, later)) in
    or_from (is_leak e.what && nat_le month (month_of e.key.day) && nat_le (month_of e.key.day) month)
    (list_any (λ x. is_leak x.what && nat_le month (month_of x.key.day) && nat_le (month_of x.key.day) month) after)
    (ap (λ b. (is_leak e.what && b) && nat_le (month_of e.key.day) month) below ∙ ap (λ b. b && nat_le (month_of e.key.day) month) (and_false (is_leak e.what)))
    (none_leaks after last month all.1 later)

none_leak : (events : List Event) (last month : ℕ) → AllByRecursion (λ e. month_of e.key.day ≤ last) events → last < month →
    has_leak_in events month month ≡ false
unfolding has_leak_in
none_leak events last month all later = none_leaks events last month all later

-- months after the last one are not clean
none_clean : (events : List Event) (last month : ℕ) → AllByRecursion (λ e. month_of e.key.day ≤ last) events → last < month → is_clean events month ≡ false
none_clean events last month all later =
    clean_is events month ∙ ap (λ b. b && not (has_leak_in events month month)) (none_read events last month all later)

-- months before the first one have no such reading
early_read : (events : List Event) (first month : ℕ) → AllByRecursion (λ e. first ≤ month_of e.key.day) events → month < first → read_in events month ≡ false
early_read [] first month all before = refl
early_read (e ∷ after) first month all before =
    let other : nat_eq (month_of e.key.day) month ≡ false = ne_eqb (month_of e.key.day) month (λ same. omega (arith, same, all.0, before)) in
    or_from (is_routine_below e.what && is_in_month month e) (read_in after month)
    (ap (λ b. is_routine_below e.what && b) other ∙ and_false (is_routine_below e.what)) (early_read after first month all.1 before)

-- months before the first one have no leak
early_leaks : (events : List Event) (first month : ℕ) → AllByRecursion (λ e. first ≤ month_of e.key.day) events → month < first →
    list_any (λ e. is_leak e.what && nat_le month (month_of e.key.day) && nat_le (month_of e.key.day) month) events ≡ false
early_leaks [] first month all before = refl
early_leaks (e ∷ after) first month all before =
    let above : nat_le (month_of e.key.day) month ≡ false = lt-leb (month_of e.key.day) month (omega (arith, all.0, before)) in
    or_from (is_leak e.what && nat_le month (month_of e.key.day) && nat_le (month_of e.key.day) month)
    (list_any (λ x. is_leak x.what && nat_le month (month_of x.key.day) && nat_le (month_of x.key.day) month) after)
    (ap (λ b. (is_leak e.what && nat_le month (month_of e.key.day)) && b) above ∙ and_false (is_leak e.what && nat_le month (month_of e.key.day)))
    (early_leaks after first month all.1 before)

early_leak : (events : List Event) (first month : ℕ) → AllByRecursion (λ e. first ≤ month_of e.key.day) events → month < first →
    has_leak_in events month month ≡ false
unfolding has_leak_in
early_leak events first month all before = early_leaks events first month all before

-- a leak in a month, by the first event and the others
leak_first : (e : Event) (after : List Event) (month : ℕ) → has_leak_in (e ∷ after) month month
    ≡ ((is_leak e.what && nat_le month (month_of e.key.day) && nat_le (month_of e.key.day) month) || has_leak_in after month month)
unfolding has_leak_in
leak_first e after month = refl

-- a leak in a month, by the events of two parts
leak_parts : (front rest : List Event) (month : ℕ) → has_leak_in (front ++ rest) month month ≡ (has_leak_in front month month || has_leak_in rest month month)
unfolding has_leak_in
leak_parts front rest month =
    list_any-append (λ (e : Event). is_leak e.what && nat_le month (month_of e.key.day) && nat_le (month_of e.key.day) month) front rest

-- for a month after those of the first part, only the second part matters
rest_tells : (front rest : List Event) (now month : ℕ) → AllByRecursion (λ e. month_of e.key.day ≤ now) front → now < month →
    is_clean (front ++ rest) month ≡ (read_in rest month && not (has_leak_in rest month month))
rest_tells front rest now month all later =
    clean_is (front ++ rest) month
    ∙ ap (λ b. b && not (has_leak_in (front ++ rest) month month))
    (list_any-append (λ (e : Event). is_routine_below e.what && is_in_month month e) front rest
    ∙ ap (λ b. b || read_in rest month) (none_read front now month all later))
    ∙ ap (λ b. read_in rest month && not b) (leak_parts front rest month
    ∙ ap (λ b. b || has_leak_in rest month month) (none_leak front now month all later))

-- ---- events whose days do not decrease

rises_to : (low : ℕ) (front : List Event) (e : Event) (rest : List Event) → Rises low (front ++ e ∷ rest) → low ≤ e.key.day
rises_to low [] e rest rises = rises.0
rises_to low (x ∷ front) e rest rises = omega (arith, rises.0, rises_to x.key.day front e rest rises.2)

front_by : (low : ℕ) (front : List Event) (e : Event) (rest : List Event) → Rises low (front ++ e ∷ rest) →
    AllByRecursion (λ x. month_of x.key.day ≤ month_of e.key.day) front
front_by low [] e rest rises = tt
front_by low (x ∷ front) e rest rises = (
  month_rises x.key.day e.key.day (rises_to x.key.day front e rest rises.2),
  front_by x.key.day front e rest rises.2,
)

all_last : (P : Event → Type 0) (front : List Event) (e : Event) → AllByRecursion P (front ++ e ∷ []) → P e
all_last P [] e all = all.0
all_last P (x ∷ front) e all = all_last P front e all.1

-- ---- the last pair

-- a number is the last pair if its months are clean, and no later two in a row are
pair_is : (events : List Event) (pair : ℕ) → (0 < pair → is_clean_twice events pair ≡ true) →
    ((k : ℕ) → pair < k → is_clean_twice events k ≡ false) → IsLastPair pair events
pair_is events pair found none first pos =
    same_from_decides (is_clean_twice_from events first) (nat_le first pair) (clean_twice_from_decides events first) (
      λ le.
          let by = leb-true first pair le in
          let both = and_parts (is_clean events pair) (is_clean events (pair + 1)) (found (omega (arith, pos, by))) in
          (pair, by, both.0, both.1),
      λ there. elim (cases_lt pair there.0) [
        | inl later ↦ absurd (false≢true (sym (none there.0 later) ∙ and_from (is_clean events there.0) (is_clean events (there.0 + 1)) there.2 there.3))
        | inr by ↦ le-leb first pair (omega (arith, there.1, by))
      ],
    )

-- ---- the event before

module _ (events : List Event) (place : ℕ) (v : Event) (within : place < length events) (stands : v ≡ get_or events place v) (rises : Rises 0 events) where
  abbrev now : ℕ
  now = month_of v.key.day

  parts : take place events ++ v ∷ drop (place + 1) events ≡ events
  parts = ap (λ es. take place events ++ es) (sym (rest_is events place v within stands)) ∙ take-append-drop place events

  front_now : AllByRecursion (λ e. month_of e.key.day ≤ now) (take place events)
  front_now = front_by 0 (take place events) v (drop (place + 1) events) (subst (Rises 0) (sym parts) rises)

  with_now : AllByRecursion (λ e. month_of e.key.day ≤ now) (take (place + 1) events)
  with_now =
      subst (AllByRecursion (λ (e : Event). month_of e.key.day ≤ now)) (sym (front_is events place v within stands))
      (all_append (λ (e : Event). month_of e.key.day ≤ now) (take place events) (v ∷ []) front_now (omega arith, tt))

  -- the event is the last one
  pub tells_last : place + 1 ≡ length events → TellsLast (clean_of v) events place
  tells_last all =
      let whole : AllByRecursion (λ (e : Event). month_of e.key.day ≤ now) events =
      subst (AllByRecursion (λ (e : Event). month_of e.key.day ≤ now)) (take_all (place + 1) events (omega (arith, all))) with_now in
      let alone : drop place events ≡ v ∷ [] =
      rest_is events place v within stands ∙ ap (λ es. v ∷ es) (drop_all (place + 1) events (omega (arith, all))) in
      record {
        within = omega (arith, within);
        front = front_now;
        behind = subst (AllByRecursion (λ (e : Event). now ≤ month_of e.key.day)) (sym alone) (omega arith, tt);
        read =
            ap (λ es. read_in es now) alone
            ∙ or_false (is_routine_below v.what && nat_eq now now)
            ∙ ap (λ b. is_routine_below v.what && b) (eq-eqb now now refl)
            ∙ and_true (is_routine_below v.what);
        leak =
            ap (λ es. has_leak_in es now now) alone
            ∙ leak_first v [] now
            ∙ ap (λ b. (is_leak v.what && b && b) || has_leak_in [] now now) (le-leb now now (omega arith))
            ∙ ap (λ b. ((is_leak v.what && true) && true) || b) (none_leak [] 0 now tt (omega (arith, month_low v.key.day)))
            ∙ or_false ((is_leak v.what && true) && true)
            ∙ and_true (is_leak v.what && true)
            ∙ and_true (is_leak v.what);
        followed = none_clean events now (now + 1) whole (omega arith);
        last = λ k later. ap (λ b. b && is_clean events (k + 1)) (none_clean events now k whole later);
      }

  module _ (months : CleanMonths) (told : TellsLast months events (place + 1)) where
    abbrev rest : List Event
    rest = drop (place + 1) events

    no_later : now ≤ months.month
    no_later =
        all_last (λ (e : Event). month_of e.key.day ≤ months.month) (take place events) v
        (subst (AllByRecursion (λ (e : Event). month_of e.key.day ≤ months.month)) (front_is events place v within stands) told.front)

    -- in the same month
    in_month : months.month ≡ now → TellsLast (record {
      month = months.month;
      read = is_routine_below v.what || months.read;
      leak = is_leak v.what || months.leak;
      followed = months.followed;
    }) events place
    in_month same = record {
      within = omega (arith, within);
      front = subst (λ m. AllByRecursion (λ (e : Event). month_of e.key.day ≤ m) (take place events)) (sym same) front_now;
      behind =
          subst (AllByRecursion (λ (e : Event). months.month ≤ month_of e.key.day)) (sym (rest_is events place v within stands))
          (omega (arith, same), told.behind);
      read =
          ap (λ es. read_in es months.month) (rest_is events place v within stands)
          ∙ ap (λ b. (is_routine_below v.what && b) || read_in rest months.month) (eq-eqb now months.month (sym same))
          ∙ ap (λ b. b || read_in rest months.month) (and_true (is_routine_below v.what))
          ∙ ap (λ b. is_routine_below v.what || b) told.read;
      leak =
          ap (λ es. has_leak_in es months.month months.month) (rest_is events place v within stands)
          ∙ leak_first v rest months.month
          ∙ ap (λ b. (is_leak v.what && b && nat_le now months.month) || has_leak_in rest months.month months.month)
          (le-leb months.month now (omega (arith, same)))
          ∙ ap (λ b. ((is_leak v.what && true) && b) || has_leak_in rest months.month months.month) (le-leb now months.month (omega (arith, same)))
          ∙ ap (λ b. b || has_leak_in rest months.month months.month) (and_true (is_leak v.what && true) ∙ and_true (is_leak v.what))
          ∙ ap (λ b. is_leak v.what || b) told.leak;
      followed = told.followed;
      last = told.last;
    }

    module _ (before : now < months.month) where
      -- the events of the later month are complete
      finished : is_clean events months.month ≡ is_month_clean months
      finished =
          ap (λ es. is_clean es months.month) (sym (take-append-drop (place + 1) events))
          ∙ rest_tells (take (place + 1) events) rest now months.month with_now before
          ∙ ap (λ b. b && not (has_leak_in rest months.month months.month)) told.read
          ∙ ap (λ b. months.read && not b) told.leak

      -- no month between them is clean
      between : (k : ℕ) → now < k → k < months.month → is_clean events k ≡ false
      between k low high =
          ap (λ es. is_clean es k) (sym (take-append-drop (place + 1) events))
          ∙ rest_tells (take (place + 1) events) rest now k with_now low
          ∙ ap (λ b. b && not (has_leak_in rest k k)) (early_read rest months.month k told.behind high)

      followed_now : is_clean events (now + 1) ≡ (is_month_clean months && nat_eq (now + 1) months.month)
      followed_now = elim (cases_eq (now + 1) months.month) [
        | inl next ↦
            ap (is_clean events) next
            ∙ finished
            ∙ sym (ap (λ b. is_month_clean months && b) (eq-eqb (now + 1) months.month next) ∙ and_true (is_month_clean months))
        | inr gap ↦
            between (now + 1) (omega arith) (omega (arith, gap, before))
            ∙ sym (ap (λ b. is_month_clean months && b) (ne_eqb (now + 1) months.month gap) ∙ and_false (is_month_clean months))
      ]

      last_now : is_pair months ≡ false → (k : ℕ) → now < k → is_clean_twice events k ≡ false
      last_now no_pair k low = elim (cases_lt months.month k) [
        | inl later ↦ told.last k later
        | inr by ↦ elim (cases_eq k months.month) [
          | inl same ↦
              ap (is_clean_twice events) same
              ∙ ap (λ b. b && is_clean events (months.month + 1)) finished
              ∙ ap (λ b. is_month_clean months && b) told.followed
              ∙ no_pair
          | inr differs ↦ ap (λ b. b && is_clean events (k + 1)) (between k low (omega (arith, by, differs)))
        ]
      ]

      -- the event is of an earlier month
      in_earlier : is_pair months ≡ false → TellsLast (record {
        month = now;
        read = is_routine_below v.what;
        leak = is_leak v.what;
        followed = is_month_clean months && nat_eq (now + 1) months.month;
      }) events place
      in_earlier no_pair = record {
        within = omega (arith, within);
        front = front_now;
        behind =
            subst (AllByRecursion (λ (e : Event). now ≤ month_of e.key.day)) (sym (rest_is events place v within stands)) (
              omega arith,
              all_weaker (λ (e : Event). months.month ≤ month_of e.key.day) (λ e. now ≤ month_of e.key.day) (λ e by. omega (arith, by, before))
                  rest told.behind,
            );
        read =
            ap (λ es. read_in es now) (rest_is events place v within stands)
            ∙ ap (λ b. (is_routine_below v.what && nat_eq now now) || b) (early_read rest months.month now told.behind before)
            ∙ or_false (is_routine_below v.what && nat_eq now now)
            ∙ ap (λ b. is_routine_below v.what && b) (eq-eqb now now refl)
            ∙ and_true (is_routine_below v.what);
        leak =
            ap (λ es. has_leak_in es now now) (rest_is events place v within stands)
            ∙ leak_first v rest now
            ∙ ap (λ b. (is_leak v.what && b && b) || has_leak_in rest now now) (le-leb now now (omega arith))
            ∙ ap (λ b. ((is_leak v.what && true) && true) || b) (early_leak rest months.month now told.behind before)
            ∙ or_false ((is_leak v.what && true) && true)
            ∙ and_true (is_leak v.what && true)
            ∙ and_true (is_leak v.what);
        followed = followed_now;
        last = last_now no_pair;
      }

      -- the last pair of clean months begins with the later month
      pub pair_found : is_pair months ≡ true → IsLastPair months.month events
      pair_found pair =
          pair_is events months.month
          (λ pos. ap (λ b. b && is_clean events (months.month + 1)) finished ∙ ap (λ b. is_month_clean months && b) told.followed ∙ pair) told.last

    -- the event is of an earlier month if the month changes
    pub moves : ((clean_with months v).month ≡ months.month → ⊥) → now < months.month
    moves differs = elim (cases_eq months.month now) [
      | inl same ↦ let at : nat_eq months.month now ≡ true = eq-eqb months.month now same in absurd (differs (rw at refl))
      | inr other ↦ omega (arith, other, no_later)
    ]

    -- the summary with the event, if no pair was found
    pub tells_more : (nat_eq months.month now ≡ false → is_pair months ≡ false) → TellsLast (clean_with months v) events place
    tells_more no_pair = elim (cases_eq months.month now) [
      | inl same ↦ let at : nat_eq months.month now ≡ true = eq-eqb months.month now same in rw at (in_month same)
      | inr differs ↦
          let past : nat_eq months.month now ≡ false = ne_eqb months.month now differs in
          rw past (in_earlier (omega (arith, differs, no_later)) (no_pair past))
    ]

-- all of them
module _ (events : List Event) (months : CleanMonths) (told : TellsLast months events 0) where
  -- the first month is complete, since all events were looked at
  whole_month : is_clean events months.month ≡ is_month_clean months
  whole_month =
      clean_is events months.month
      ∙ ap (λ b. b && not (has_leak_in events months.month months.month)) told.read
      ∙ ap (λ b. months.read && not b) told.leak

  pub pair_in_front : is_pair months ≡ true → IsLastPair months.month events
  pair_in_front pair =
      pair_is events months.month
      (λ pos. ap (λ b. b && is_clean events (months.month + 1)) whole_month ∙ ap (λ b. is_month_clean months && b) told.followed ∙ pair) told.last

  pub pair_nowhere : is_pair months ≡ false → IsLastPair 0 events
  pair_nowhere no_pair =
      pair_is events 0 (λ pos. absurd (omega (arith, pos))) (λ k pos. elim (cases_lt months.month k) [
        | inl later ↦ told.last k later
        | inr by ↦ elim (cases_eq k months.month) [
          | inl same ↦
              ap (is_clean_twice events) same
              ∙ ap (λ b. b && is_clean events (months.month + 1)) whole_month
              ∙ ap (λ b. is_month_clean months && b) told.followed
              ∙ no_pair
          | inr differs ↦
              ap (λ b. b && is_clean events (k + 1)) (clean_is events k
              ∙ ap (λ b. b && not (has_leak_in events k k)) (early_read events months.month k told.behind (omega (arith, by, differs))))
        ]
      ])

-- without events there is no pair
pub pair_of_no_events : (events : List Event) → length events ≡ 0 → IsLastPair 0 events
pair_of_no_events [] none = pair_is [] 0 (λ pos. absurd (omega (arith, pos))) (λ k pos. ap (λ b. b && is_clean [] (k + 1)) (clean_is [] k))
pair_of_no_events (e ∷ after) none = absurd (omega (arith, none))

-- an event of another month changes the month
pub moved : (months : CleanMonths) (v : Event) → nat_eq months.month (month_of v.key.day) ≡ false → (clean_with months v).month ≡ months.month → ⊥
moved months v past stays =
    let at : (clean_with months v).month ≡ month_of v.key.day = rw past refl in
    false≢true (sym past ∙ eq-eqb months.month (month_of v.key.day) (sym stays ∙ at))
