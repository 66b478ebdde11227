-- The first later event that meets a duty, and the duty of an event.
use Rattle.std.proofs.Common.{◌≡◌, ℕ, zero, suc, ◌+◌, ◌-◌, ◌<◌, ◌≤◌, Bool, true, false, ◌&&◌, nat_le, nat_lt, Option, Some, None, List, [], ◌∷◌, ◌++◌, length}
use Rattle.std.proofs.Common.{take, drop, get_or, slice_get, find, refl, sym, ap, ◌∙◌, subst, inl, inr, arith}
use Rattle.std.specs.List.{AllByRecursion}
use Rattle.std.specs.List.Sorted.{IsPartitionPoint}
use Rattle.std.specs.Option.{option_to_list}
use Rattle.std.proofs.lemmas.Bool.{cases_Bool, cases_lt, and_left, and_right, leb-false, lt-leb, ltb-true}
use Rattle.std.proofs.lemmas.List.{drop_more, drop_all, take_more}
use Rattle.list_words.specs.Order.{Ascends}
use Rattle.list_words.specs.Words.{each_from, each_where}
use Rattle.list_words.proofs.Members.{all_weaker}
use Rattle.list_words.proofs.WordLemmas.{each_more, each_pushed}
use Rattle.ldar_days.specs.Calendar.{end_by}
use Rattle.fact_kinds.specs.Facts.{is_earlier}
use Rattle.fact_kinds.proofs.Cuts.{earlier_day}
use Rattle.ldar_law.specs.declared.causes.TheConstants.{CAUSE_RELEASE, CAUSE_EVIDENCE}
use Rattle.ldar_law.specs.declared.duty.Duty.{Duty}
use Rattle.ldar_law.specs.declared.event.Event.{Event}
use Rattle.ldar_law.specs.declared.event.Happening.TheVariants.{Retire}
use Rattle.ldar_law.specs.Duties.{drip, release, evidence, is_repeated}
use Rattle.ldar_law.specs.Force.{is_in_service}
use Rattle.ldar_law.specs.Happenings.{is_release, has_evidence}
use Rattle.ldar_law.specs.Standing.{is_under_relief_rules, is_under_heavy_liquid_rules}
use Rattle.monitor_calendar.specs.Causes as causes
use Rattle.monitor_calendar.specs.Following.{cause_of, meets, IsNext, comes_by, event_by, is_asked_by, after_by, after_event, TellsFor}
use Rattle.monitor_calendar.specs.declared.after_event.After.{After}
use Rattle.monitor_calendar.specs.declared.after_event.After.TheVariants.{Drips, Release, Evidence}
use Rattle.monitor_calendar.specs.declared.asked.Asked.{Asked}
use Rattle.monitor_calendar.specs.declared.drips.PastDrips.{PastDrips}
use Rattle.monitor_calendar.proofs.Listing.{no_drip, no_release, no_evidence, unowed}

-- ---- the first event that meets a duty

-- an element passes and is up to a day, or fails
module _ (p : Event → Bool) (due : ℕ) where
  -- an element that fails is skipped
  pass_over : (events : List Event) (i : ℕ) (d : Event) → i < length events → p (get_or events i d) ≡ false →
      find (λ x. p x && nat_le x.key.day due) (drop i events) ≡ find (λ x. p x && nat_le x.key.day due) (drop (i + 1) events)
  pass_over events i d within fails =
      ap (find (λ x. p x && nat_le x.key.day due)) (drop_more events i d within)
      ∙ rw (and_left (p (get_or events i d)) (nat_le (get_or events i d).key.day due) fails) refl

  -- some elements that fail are skipped
  pass_all : (events : List Event) (i count : ℕ) (d : Event) → i + count ≤ length events →
      ((k : ℕ) → i ≤ k → k < i + count → p (get_or events k d) ≡ false) →
      find (λ x. p x && nat_le x.key.day due) (drop i events) ≡ find (λ x. p x && nat_le x.key.day due) (drop (i + count) events)
  pass_all events i zero d within fail = let same : i + 0 ≡ i = omega arith in rw same refl
  pass_all events i (suc count) d within fail =
      let on : i + 1 + count ≡ i + suc count = omega arith in
      pass_over events i d (omega (arith, within)) (fail i (omega arith) (omega arith))
      ∙ pass_all events (i + 1) count d (omega (arith, within)) (λ k from to. fail k (omega (arith, from)) (omega (arith, to)))
      ∙ rw on refl

  -- no element is up to the day if all are later
  none_by : (events : List Event) → AllByRecursion (λ x. due < x.key.day) events → find (λ x. p x && nat_le x.key.day due) events ≡ None
  none_by [] all = refl
  none_by (x ∷ xs) all = rw (and_right (p x) (nat_le x.key.day due) (lt-leb x.key.day due all.0)) (none_by xs all.1)

  -- the first element, if it is the next one that passes
  first_here : (e : Event) (events : List Event) → p e ≡ true → AllByRecursion (λ x. e.key.day ≤ x.key.day) events →
      find (λ x. p x && nat_le x.key.day due) (e ∷ events) ≡ comes_by (Some e) due
  first_here e events passes later =
      elim (cases_Bool (nat_le e.key.day due)) [
        | inl by ↦ rw (passes, by) refl
        | inr late ↦ rw (passes, late)
            (none_by events (all_weaker (λ x. e.key.day ≤ x.key.day) (λ x. due < x.key.day) (λ x le. omega
            (arith, le, leb-false e.key.day due late)) events later))
      ]

-- the days of later events are not earlier
days_ahead : (events : List Event) (i : ℕ) (d : Event) → Ascends (λ a b. is_earlier a.key b.key) events → i < length events →
    AllByRecursion (λ e. (get_or events i d).key.day ≤ e.key.day) (drop (i + 1) events)
days_ahead [] i d up within = absurd (omega arith)
days_ahead (e ∷ es) zero d up within =
    all_weaker (λ y. is_earlier e.key y.key ≡ true) (λ y. e.key.day ≤ y.key.day) (λ y earlier. earlier_day e.key y.key earlier) es up.0
days_ahead (e ∷ es) (suc i) d up within =
    let next : suc i + 1 ≡ suc (i + 1) = omega arith in rw next (days_ahead es i d up.1 (omega (arith, within)))

-- the event at a place of a list
got : (events : List Event) (i : ℕ) (d : Event) → i < length events → slice_get events i ≡ Some (get_or events i d)
got [] i d within = absurd (omega arith)
got (e ∷ es) zero d within = refl
got (e ∷ es) (suc i) d within = got es i d (omega (arith, within))

-- there is no event at a place after the last
got_none : (events : List Event) (i : ℕ) → length events ≤ i → slice_get events i ≡ None
got_none [] zero end = refl
got_none [] (suc i) end = refl
got_none (e ∷ es) zero end = absurd (omega arith)
got_none (e ∷ es) (suc i) end = got_none es i (omega (arith, end))

-- the next place has the first event that meets the duty, if it is in time
found_next : (after : After) (events : List Event) (i next due : ℕ) (d : Event) → Ascends (λ a b. is_earlier a.key b.key) events →
    IsNext after events i next →
    find (λ x. meets after x.what && nat_le x.key.day due) (drop i events) ≡ event_by events next due
found_next after events i next due d up is =
    let on : i + (next - i) ≡ next = omega (arith, is.behind) in
    let over = pass_all (λ x. meets after x.what) due events i (next - i) d (omega (arith, is.behind, is.within))
    (λ k from to. is.none k d from (omega (arith, to, is.behind))) in
    over ∙ rw on (
    elim (cases_lt next (length events)) [
      | inl within ↦
          rw (got events next d within, drop_more events next d within)
          (first_here (λ x. meets after x.what) due (get_or events next d) (drop (next + 1) events) (is.here d within) (days_ahead events next d up within))
      | inr end ↦ rw (got_none events next end, drop_all next events end) refl
    ])

-- ---- the duty of an event

-- a conjunction of three tests is associative
and_assoc : (a b c : Bool) → ((a && b) && c) ≡ (a && (b && c))
and_assoc true b c = refl
and_assoc false b c = refl

module _ (asked : Asked) where
  -- the three causes in one form
  abbrev one_form : After → List Event → Event → List Event → Option Duty
  one_form after before e later =
      causes.duty asked (cause_of after) e.key.day (end_by (e.key.day + 5)) (is_asked_by asked after (is_repeated before) e)
      (find (λ x. meets after x.what && nat_le x.key.day (end_by (e.key.day + 5))) later)

  -- each cause is of that form
  in_one_form : (after : After) (before : List Event) (e : Event) (later : List Event) → after_event asked after before e later
      ≡ one_form after before e later
  unfolding drip release evidence
  in_one_form Drips before e later = refl
  in_one_form Release before e later =
      ap (λ owed. causes.duty asked CAUSE_RELEASE e.key.day (end_by (e.key.day + 5)) owed (find (λ x. meets Release x.what && nat_le x.key.day (end_by
      (e.key.day + 5))) later))
      (and_assoc (is_release e.what) (is_in_service asked.item.now e.key.day) (is_under_relief_rules asked.item.now asked.classes.now e.key.day))
  in_one_form Evidence before e later =
      ap (λ owed. causes.duty asked CAUSE_EVIDENCE e.key.day (end_by (e.key.day + 5)) owed (find (λ x. meets Evidence x.what && nat_le x.key.day (end_by
      (e.key.day + 5))) later))
      (and_assoc (has_evidence e.what) (is_in_service asked.item.now e.key.day) (is_under_heavy_liquid_rules asked.item.now asked.classes.now e.key.day))

  -- the summary of drips is enough
  asked_alike : (after : After) (past : PastDrips) (before : List Event) (e : Event) → TellsFor after past before →
      is_asked_by asked after past.repeat e ≡ is_asked_by asked after (is_repeated before) e
  asked_alike Drips past before e tells = ap (λ b. is_asked_by asked Drips b e) tells.repeat
  asked_alike Release past before e tells = refl
  asked_alike Evidence past before e tells = refl

  -- the duty from the next place is the duty of the cause
  pub after_by_is : (after : After) (past : PastDrips) (place next : ℕ) (e : Event) → Ascends (λ a b. is_earlier a.key b.key) asked.events.now →
      TellsFor after past (take place asked.events.now) → (is_asked_by asked after past.repeat e ≡ true → IsNext after asked.events.now (place + 1) next) →
      after_by asked after past.repeat e next ≡ after_event asked after (take place asked.events.now) e (drop (place + 1) asked.events.now)
  after_by_is after past place next e up tells is =
      let events = asked.events.now in
      let due = end_by (e.key.day + 5) in
      let form : one_form after (take place events) e (drop (place + 1) events)
      ≡ causes.duty asked (cause_of after) e.key.day due (is_asked_by asked after past.repeat e)
      (find (λ x. meets after x.what && nat_le x.key.day due) (drop (place + 1) events)) = rw (← (asked_alike after past (take place events) e tells)) refl in
      elim (cases_Bool (is_asked_by asked after past.repeat e)) [
        | inl asks ↦ sym (in_one_form after (take place events) e (drop (place + 1) events) ∙ form
            ∙ ap (causes.duty asked (cause_of after) e.key.day due (is_asked_by asked after past.repeat e))
            (found_next after events (place + 1) next due e up (is asks)))
        | inr none ↦
            let no_duty : (met : Option Event) →
            causes.duty asked (cause_of after) e.key.day due (is_asked_by asked after past.repeat e) met ≡ None =
            λ met. unowed asked.item.now asked.classes.now asked.startup asked.events.now asked.skipped.now asked.day (cause_of after) e.key.day due
            (is_asked_by asked after past.repeat e) met none in
            no_duty (event_by events next due)
            ∙ sym (in_one_form after (take place events) e (drop (place + 1) events) ∙ form
            ∙ no_duty (find (λ x. meets after x.what && nat_le x.key.day due) (drop (place + 1) events)))
      ]

-- ---- events without a duty

-- a prefix without a value is skipped
pub each_passed_over : {X Y : Type 0} (f : List X → X → List X → Option Y) (xs : List X) (n : ℕ) (d : X) → n ≤ length xs →
    ((i : ℕ) → i < n → f (take i xs) (get_or xs i d) (drop (i + 1) xs) ≡ None) → each_where f xs ≡ each_from f (take n xs) (drop n xs)
each_passed_over f xs zero d within none = refl
each_passed_over f xs (suc n) d within none =
    let next : suc n ≡ n + 1 = omega arith in
    each_passed_over f xs n d (omega (arith, within)) (λ i lt. none i (omega (arith, lt)))
    ∙ each_more f xs n d (omega (arith, within))
    ∙ rw (none n (omega arith), next) refl

-- ---- steps of the walk

-- an arbitrary event, as a default
abbrev blank : Event
blank = record { key = record { day = 0; minute = 0; handheld = 0; number = 0; index = 0 }; what = Retire }

module _ (asked : Asked) (after : After) where
  -- an event too long ago has no duty on the list
  gives_none : (which : After) (before : List Event) (e : Event) (later : List Event) → e.key.day + 5 + 366 < asked.day →
      after_event asked which before e later ≡ None
  gives_none Drips before e later gone =
      no_drip asked.item.now asked.classes.now asked.startup asked.events.now asked.skipped.now asked.day before e later (omega (arith, gone))
  gives_none Release before e later gone =
      no_release asked.item.now asked.classes.now asked.startup asked.events.now asked.skipped.now asked.day before e later (omega (arith, gone))
  gives_none Evidence before e later gone =
      no_evidence asked.item.now asked.classes.now asked.startup asked.events.now asked.skipped.now asked.day before e later (omega (arith, gone))

  -- the walk may begin at the first event whose duty the list can contain
  pub begins_at : (from : ℕ) → from ≤ length asked.events.now →
      IsPartitionPoint (λ e. nat_lt (e.key.day + 5 + 366) asked.day ≡ true) (λ e. nat_lt (e.key.day + 5 + 366) asked.day ≡ false) asked.events.now from →
      each_from (after_event asked after) (take from asked.events.now) (drop from asked.events.now) ≡ each_where (after_event asked after) asked.events.now
  begins_at from within parts =
      sym (each_passed_over (after_event asked after) asked.events.now from blank within
      (λ i lt. gives_none after (take i asked.events.now) (get_or asked.events.now i blank) (drop (i + 1) asked.events.now)
      (ltb-true ((get_or asked.events.now i blank).key.day + 5 + 366) asked.day (parts.0 i blank (omega arith) lt))))

  -- one more event
  pub one_event_on : (past : PastDrips) (place next : ℕ) (e : Event) (done : List Duty) (given : Option Duty) →
      Ascends (λ a b. is_earlier a.key b.key) asked.events.now → place < length asked.events.now → get_or asked.events.now place e ≡ e →
      TellsFor after past (take place asked.events.now) → (is_asked_by asked after past.repeat e ≡ true → IsNext after asked.events.now (place + 1) next) →
      given ≡ after_by asked after past.repeat e next →
      (done ++ option_to_list given) ++ each_from (after_event asked after) (take (place + 1) asked.events.now) (drop (place + 1) asked.events.now)
      ≡ done ++ each_from (after_event asked after) (take place asked.events.now) (drop place asked.events.now)
  one_event_on past place next e done given up within stands tells is by =
      let events = asked.events.now in
      let f = after_event asked after in
      let same : given ≡ f (take place events) (get_or events place e) (drop (place + 1) events) =
      by ∙ after_by_is asked after past place next e up tells is ∙ ap (λ x. f (take place events) x (drop (place + 1) events)) (sym stands) in
      ap (λ o. (done ++ option_to_list o) ++ each_from f (take (place + 1) events) (drop (place + 1) events)) same
      ∙ each_pushed f done events place e within

  -- the summary of drips with the event at a place
  pub tells_on : (past more : PastDrips) (events : List Event) (place : ℕ) (e : Event) → place < length events → get_or events place e ≡ e →
      TellsFor after past (take place events) → ((front : List Event) → TellsFor after past front → TellsFor after more (front ++ e ∷ [])) →
      TellsFor after more (take (place + 1) events)
  tells_on past more events place e within stands tells goes =
      subst (TellsFor after more) (sym (take_more events place e within ∙ ap (λ x. take place events ++ x ∷ []) stands))
      (goes (take place events) tells)
