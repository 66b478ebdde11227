-- The summary of open leaks after one more event, and whether some leak is unsettled.
use Rattle.std.proofs.Common.{◌≡◌, ℕ, ◌+◌, ◌-◌, ◌<◌, ◌≤◌, Bool, true, false, not, ◌&&◌, ◌||◌, nat_eq, nat_le, List, [], ◌∷◌, ◌++◌, refl, sym, ap, subst, ◌∙◌}
use Rattle.std.proofs.Common.{inl, inr, arith}
use Rattle.std.specs.Prelude.{if◌then◌else◌}
use Rattle.std.specs.List.{AllByRecursion}
use Rattle.std.proofs.lemmas.Bool.{cases_eq, and_parts, or_right, eq-eqb, ne_eqb, true≢false, false≢true}
use Rattle.std.proofs.lemmas.Bool.Decides.{nat_tests}
use Rattle.list_words.proofs.Members.{all_append}
use Rattle.ldar_days.specs.Calendar.{month_of}
use Rattle.fact_kinds.specs.declared.class.Kind.{Kind}
use Rattle.ldar_law.specs.declared.event.Event.{Event}
use Rattle.ldar_law.specs.declared.event.Happening.{Happening}
use Rattle.ldar_law.specs.declared.numbers.TheConstants.{REPAIR_DAYS}
use Rattle.ldar_law.specs.Happenings.{is_leak, is_look, is_sensor, is_below, is_attempt, delays_with_reading}
use Rattle.ldar_law.specs.Settling as law
use Rattle.leak_tags.specs.declared.below_months.BelowMonths.{BelowMonths}
use Rattle.leak_tags.specs.declared.leaks.Leaks.{Leaks}
use Rattle.leak_tags.specs.declared.open_leaks.OpenLeaks.{OpenLeaks}
use Rattle.leak_tags.specs.OpenLeaks.{has_leaks, leaks_with, settled, reached, no_months, is_second, is_reading, none_open, is_open, settles_readings}
use Rattle.leak_tags.specs.OpenLeaks.{settles_drips, settles_sensors, settles_delayed, with_event}
use Rattle.leak_tags.specs.Telling.{some_after, since_leak, some_open, Told, Tells}
use Rattle.leak_tags.proofs.AfterLemmas.{or_false, some_same, some_or, somewhere_is_after, since_more}
use Rattle.leak_tags.proofs.SettlingLemmas.{sums_open, open_more, one_of_sorts, reading_settled, drip_settled, sensor_settled, attempted_since, below_since}
use Rattle.leak_tags.proofs.ToldLemmas.{sums_under, told_same, told_settled, told_reached, told_opened, told_any}

-- ---- months

-- the month of a later day is not earlier
pub month_rises : (a b : ℕ) → a ≤ b → month_of a ≤ month_of b
unfolding month_of
month_rises a b le = grind (arith, nat_tests)

-- no month is before January 1970
pub month_low : (n : ℕ) → 23_640 ≤ month_of n
unfolding month_of
month_low n = grind (arith, nat_tests)

-- no month is a second one without a reading below before it
none_second : (month : ℕ) → 23_640 ≤ month → is_second no_months month ≡ false
none_second month low =
    let other : nat_eq month 0 ≡ false = ne_eqb month 0 (λ e. omega (arith, e, low)) in
    let next : nat_eq (month - 1) 0 ≡ false = ne_eqb (month - 1) 0 (λ e. omega (arith, e, low)) in
    rw (other, next) refl

-- a month is a second one, with one more month that has a reading below
second_with : (last now month : ℕ) (before : Bool) → last ≤ now → now ≤ month → 0 < now →
    ((if nat_eq month last then before else nat_eq (month - 1) last) || nat_eq (now + 1) month)
    ≡ (if nat_eq month now then (if nat_eq now last then before else nat_eq (now - 1) last) else nat_eq (month - 1) now)
second_with last now month before by le pos = elim (cases_eq month now) [
  | inl same ↦
      let at : nat_eq month now ≡ true = eq-eqb month now same in
      let past : nat_eq (now + 1) month ≡ false = ne_eqb (now + 1) month (λ e. omega (arith, e, same)) in
      rw (at, past) (or_false (if nat_eq month last then before else nat_eq (month - 1) last)
      ∙ ap (λ n. if nat_eq n last then before else nat_eq (n - 1) last) same)
  | inr differs ↦
      let later : now < month = omega (arith, differs, le) in
      let at : nat_eq month now ≡ false = ne_eqb month now differs in
      let past : nat_eq month last ≡ false = ne_eqb month last (λ e. omega (arith, e, by, later)) in
      elim (cases_eq (month - 1) now) [
        | inl next ↦
            let is : nat_eq (month - 1) now ≡ true = eq-eqb (month - 1) now next in
            let next_is : nat_eq (now + 1) month ≡ true = eq-eqb (now + 1) month (omega (arith, next, later)) in
            rw (at, past, is, next_is) (or_right (nat_eq (month - 1) last) true refl)
        | inr far ↦
            let is : nat_eq (month - 1) now ≡ false = ne_eqb (month - 1) now far in
            let next_is : nat_eq (now + 1) month ≡ false = ne_eqb (now + 1) month (λ e. far (omega (arith, e))) in
            let none : nat_eq (month - 1) last ≡ false = ne_eqb (month - 1) last (λ e. far (omega (arith, e, by, later))) in
            rw (at, past, is, next_is, none) refl
      ]
]

-- readings below the leak definition since the last leak, with one more event
months_more : (leaks below since : Bool) (months : BelowMonths) (now month : ℕ) → (leaks && below) ≡ false → months.last ≤ now → now ≤ month →
    23_640 ≤ now → since ≡ is_second months month →
    ((not leaks && since) || (below && nat_eq (now + 1) month))
    ≡ is_second (if leaks then no_months else if below then record { last = now; before = is_second months now } else months) month
months_more true true since months now month apart by le low so = absurd (true≢false apart)
months_more true false since months now month apart by le low so = sym (none_second month (omega (arith, le, low)))
months_more false false since months now month apart by le low so = or_false since ∙ so
months_more false true since months now month apart by le low so =
    ap (λ b. b || nat_eq (now + 1) month) so ∙ second_with months.last now month months.before by le (omega (arith, low))

-- the last month of such a reading, with one more event
last_by : (leaks below : Bool) (months : BelowMonths) (now : ℕ) → months.last ≤ now →
    (if leaks then no_months else if below then record { last = now; before = is_second months now } else months).last ≤ now
last_by true below months now by = omega arith
last_by false true months now by = omega arith
last_by false false months now by = by

-- ---- one more event

-- a property of all events, for one of them
one_of_all : (P : Event → Type 0) (before : List Event) (e : Event) (after : List Event) → AllByRecursion P (before ++ e ∷ after) → P e
one_of_all P [] e after all = all.0
one_of_all P (x ∷ before) e after all = one_of_all P before e after all.1

-- if two tests do not both pass and one does, the other fails
other_fails : (a b : Bool) → (a && b) ≡ false → a ≡ true → b ≡ false
other_fails true b apart passes = apart
other_fails false b apart passes = absurd (false≢true passes)

-- the summary of the leaks of one kind, with one more event
sort_more : (kind : Kind) (is_sort : Happening → Bool) (events : List Event) (v : Event) (all late : Bool)
    (fits : (before : List Event) (e : Event) (after : List Event) → before ++ e ∷ after ≡ events → (is_leak e.what && is_sort e.what) ≡ true →
    law.settles kind e after v ≡ (all || (late && law.has_delay_between e after)))
    (leaks : Leaks) (today : ℕ) → today ≤ v.key.day → Told (some_open kind is_sort events) leaks today →
    Told (some_open kind is_sort (events ++ v ∷ [])) (leaks_with leaks all late (is_leak v.what && is_sort v.what) v) v.key.day
sort_more kind is_sort events v all late fits leaks today le told =
    let some : (Bool → ℕ → Bool) → Bool = some_open kind is_sort events in
    let left : (Bool → ℕ → Bool) → Bool = λ p. some (λ l from. not (all || (late && l)) && p l from) in
    let delayed : (Bool → ℕ → Bool) → Bool = λ p. left (λ l from. p ((delays_with_reading v.what && nat_le v.key.day (from + REPAIR_DAYS)) || l) from) in
    told_same (some_open kind is_sort (events ++ v ∷ [])) (λ p. delayed p || ((is_leak v.what && is_sort v.what) && p false v.key.day))
    (leaks_with leaks all late (is_leak v.what && is_sort v.what) v) v.key.day
    (open_more kind is_sort events v all late fits)
    (told_opened delayed (reached (settled leaks all late) (delays_with_reading v.what) v.key.day) v.key.day
    (told_reached left (settled leaks all late) today v.key.day (sums_under some (sums_open kind is_sort events) (λ l _. not (all || (late && l)))) le
    (told_settled some leaks today (sums_open kind is_sort events) told all late)
    (delays_with_reading v.what))
    (is_leak v.what && is_sort v.what))

module _ (kind : Kind) (leaks : OpenLeaks) (today : ℕ) (events : List Event) (v : Event) (tells : Tells kind leaks today events) (le : today ≤ v.key.day) where
  -- an attempt since a leak of the events
  attempt_is : (before : List Event) (e : Event) (after : List Event) → before ++ e ∷ after ≡ events → is_leak e.what ≡ true →
      law.is_attempted after ≡ leaks.attempted
  attempt_is before e after at leak =
      attempted_since before e after leak ∙ ap (since_leak (λ x. is_attempt x.what)) at ∙ tells.attempted

  -- a reading in the month before
  second_is : (before : List Event) (e : Event) (after : List Event) → before ++ e ∷ after ≡ events → is_leak e.what ≡ true →
      law.was_below after v ≡ is_second leaks.below (month_of v.key.day)
  second_is before e after at leak =
      let apart : (is_leak e.what && is_below e.what) ≡ false =
      one_of_all (λ x. (is_leak x.what && is_below x.what) ≡ false) before e after
      (subst (AllByRecursion (λ x. (is_leak x.what && is_below x.what) ≡ false)) (sym at) tells.apart) in
      below_since before e after v leak (other_fails (is_leak e.what) (is_below e.what) apart leak)
      ∙ ap (since_leak (λ x. is_below x.what && nat_eq (month_of x.key.day + 1) (month_of v.key.day))) at
      ∙ tells.below (month_of v.key.day) (month_rises today v.key.day le)

  -- the summary with one more event
  pub tells_more : (is_leak v.what && is_below v.what) ≡ false → Tells kind (with_event kind leaks v) v.key.day (events ++ v ∷ [])
  tells_more apart = record {
    readings = sort_more kind is_reading events v (settles_readings leaks v) (settles_delayed kind leaks v)
        (λ before e after at sorts. let parts = and_parts (is_leak e.what) (is_reading e.what) sorts in
        reading_settled kind v leaks.attempted (is_second leaks.below (month_of v.key.day)) e after
        (attempt_is before e after at parts.0) (second_is before e after at parts.0) parts.1)
        leaks.readings today le tells.readings;
    drips = sort_more kind is_look events v (settles_drips leaks v) (settles_delayed kind leaks v)
        (λ before e after at sorts. let parts = and_parts (is_leak e.what) (is_look e.what) sorts in
        drip_settled kind v leaks.attempted (is_second leaks.below (month_of v.key.day)) e after
        (attempt_is before e after at parts.0) (second_is before e after at parts.0) parts.1)
        leaks.drips today le tells.drips;
    sensors = sort_more kind is_sensor events v (settles_sensors v) (settles_delayed kind leaks v)
        (λ before e after at sorts. let parts = and_parts (is_leak e.what) (is_sensor e.what) sorts in
        sensor_settled kind v leaks.attempted (is_second leaks.below (month_of v.key.day)) e after
        (attempt_is before e after at parts.0) (second_is before e after at parts.0) parts.1)
        leaks.sensors today le tells.sensors;
    attempted = since_more (λ e. is_attempt e.what) events v ∙ ap (λ b. (not (is_leak v.what) && b) || is_attempt v.what) tells.attempted;
    below = λ month at.
        since_more (λ e. is_below e.what && nat_eq (month_of e.key.day + 1) month) events v
        ∙ months_more (is_leak v.what) (is_below v.what) (since_leak (λ e. is_below e.what && nat_eq (month_of e.key.day + 1) month) events)
        leaks.below (month_of v.key.day) month apart
        (omega (arith, tells.months, month_rises today v.key.day le)) at (month_low v.key.day)
        (tells.below month (omega (arith, at, month_rises today v.key.day le)));
    months = last_by (is_leak v.what) (is_below v.what) leaks.below (month_of v.key.day) (omega (arith, tells.months, month_rises today v.key.day le));
    apart = all_append (λ e. (is_leak e.what && is_below e.what) ≡ false) events (v ∷ []) tells.apart (apart, tt);
  }

-- no events
pub tells_none : (kind : Kind) → Tells kind none_open 0 []
tells_none kind = record {
  readings = record { delayed = refl; reached = λ day le. refl; missed = λ day le. refl; in_order = tt };
  drips = record { delayed = refl; reached = λ day le. refl; missed = λ day le. refl; in_order = tt };
  sensors = record { delayed = refl; reached = λ day le. refl; missed = λ day le. refl; in_order = tt };
  attempted = refl;
  below = λ month le. sym (none_second month (omega (arith, le, month_low 0)));
  months = omega arith;
  apart = tt;
}

-- ---- whether some leak is unsettled

-- an unsettled leak, by its kind
spread : (a b c st : Bool) → (((a || b) || c) && not st) ≡ ((((a && not st) && true) || ((b && not st) && true)) || ((c && not st) && true))
spread true b c false = refl
spread false true c false = refl
spread false false true false = refl
spread false false false false = refl
spread true true true true = refl
spread true true false true = refl
spread true false true true = refl
spread true false false true = refl
spread false true true true = refl
spread false true false true = refl
spread false false true true = refl
spread false false false true = refl

-- some leak is unsettled exactly if the summary has an open one
pub unsettled_is : (kind : Kind) (leaks : OpenLeaks) (today : ℕ) (events : List Event) → Tells kind leaks today events →
    law.is_unsettled kind events ≡ is_open leaks
unsettled_is kind leaks today events tells =
    let open_of : (Happening → Bool) → Event → List Event → Bool =
    λ is_sort e after. ((is_leak e.what && is_sort e.what) && not (law.is_settled kind e after)) && true in
    somewhere_is_after (λ e after. is_leak e.what && not (law.is_settled kind e after)) [] events
    ∙ some_same (λ e after. is_leak e.what && not (law.is_settled kind e after))
    (λ e after. (open_of is_reading e after || open_of is_look e after) || open_of is_sensor e after)
    (λ e after.
    ap (λ b. b && not (law.is_settled kind e after)) (one_of_sorts e.what)
    ∙ spread (is_leak e.what && is_reading e.what) (is_leak e.what && is_look e.what) (is_leak e.what && is_sensor e.what) (law.is_settled kind e after))
    events
    ∙ some_or (λ e after. open_of is_reading e after || open_of is_look e after) (open_of is_sensor) events
    ∙ ap (λ b. b || some_after (open_of is_sensor) events) (some_or (open_of is_reading) (open_of is_look) events)
    ∙ ap (λ b. (b || some_after (open_of is_look) events) || some_after (open_of is_sensor) events)
    (told_any (some_open kind is_reading events) leaks.readings today (sums_open kind is_reading events) tells.readings)
    ∙ ap (λ b. (has_leaks leaks.readings || b) || some_after (open_of is_sensor) events)
    (told_any (some_open kind is_look events) leaks.drips today (sums_open kind is_look events) tells.drips)
    ∙ ap (λ b. (has_leaks leaks.readings || has_leaks leaks.drips) || b)
    (told_any (some_open kind is_sensor events) leaks.sensors today (sums_open kind is_sensor events) tells.sensors)
