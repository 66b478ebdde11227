-- Walks over events: the open leaks at a place, the next attempt, and events whose days do not decrease.
use Rattle.std.proofs.Common.{◌≡◌, ℕ, zero, suc, ◌+◌, ◌<◌, ◌≤◌, Bool, true, false, not, ◌&&◌, ◌||◌, nat_lt, Option, Some, None, List, [], ◌∷◌, ◌++◌, length}
use Rattle.std.proofs.Common.{take, drop, get_or, slice_get, option_map, refl, sym, ap, subst, ◌∙◌, inl, inr, ◌⊎◌, arith}
use Rattle.std.proofs.lemmas.Bool.{cases_lt, or_parts, ltb-true, ltb-false, or_cases, and_from, true≢false}
use Rattle.std.proofs.lemmas.List.{drop_more, take_more, drop_all}
use Rattle.std.specs.Prelude.{is_some, IfSome}
use Rattle.std.specs.List.{cons_option}
use Rattle.list_words.specs.Words.{first_from, each_from}
use Rattle.list_words.proofs.WordLemmas.{each_more}
use Rattle.fact_kinds.specs.declared.class.Kind.{Kind}
use Rattle.fact_kinds.specs.declared.key.Key.{Key}
use Rattle.ldar_law.specs.declared.event.Event.{Event}
use Rattle.ldar_law.specs.declared.span.Span.{Span}
use Rattle.ldar_law.specs.Happenings.{is_leak, is_look, is_sensor, is_below, is_attempt, delays_with_reading}
use Rattle.ldar_law.specs.Settling.{is_unsettled}
use Rattle.ldar_law.specs.Spans as law
use Rattle.leak_tags.specs.declared.open_leaks.OpenLeaks.{OpenLeaks}
use Rattle.leak_tags.specs.declared.below_months.BelowMonths.{BelowMonths}
use Rattle.leak_tags.specs.declared.leaks.Days.{Days}
use Rattle.leak_tags.specs.declared.leaks.Leaks.{Leaks}
use Rattle.leak_tags.specs.declared.next_attempt.NextAttempt.{NextAttempt}
use Rattle.leak_tags.specs.declared.walk.OpenTag.{OpenTag}
use Rattle.leak_tags.specs.declared.walk.Walk.{Walk}
use Rattle.leak_tags.specs.CleanPairs.{IsPairFor}
use Rattle.leak_tags.specs.OpenLeaks.{no_leaks, has_leaks, settled, reached, opened, leaks_with, is_reading, none_open, is_open, with_event}
use Rattle.leak_tags.specs.OpenLeaks.{settles_readings, settles_drips, settles_sensors, settles_delayed}
use Rattle.leak_tags.specs.Telling.{Tells, Rises, IsAt, IsNext}
use Rattle.leak_tags.specs.Walking.{Walks, closing_from, closed_tag, tags_from, rest_of}
use Rattle.leak_tags.proofs.AfterLemmas.{or_true, and_false}
use Rattle.leak_tags.proofs.SettlingLemmas.{one_of_sorts}
use Rattle.leak_tags.proofs.TellsLemmas.{tells_none, tells_more, unsettled_is}

-- ---- the event at a place

-- the events from a place on begin with the event there
pub rest_is : (events : List Event) (i : ℕ) (e : Event) → i < length events → e ≡ get_or events i e → drop i events ≡ e ∷ drop (i + 1) events
rest_is events i e within is = drop_more events i e within ∙ ap (λ x. x ∷ drop (i + 1) events) (sym is)

-- the events before the next place end with the event here
pub front_is : (events : List Event) (i : ℕ) (e : Event) → i < length events → e ≡ get_or events i e → take (i + 1) events ≡ take i events ++ e ∷ []
front_is events i e within is = take_more events i e within ∙ ap (λ x. take i events ++ x ∷ []) (sym is)

-- ---- events whose days do not decrease

-- an event is in order if both tests fail
pub in_place : (e : Event) (today : ℕ) → (nat_lt e.key.day today || (is_leak e.what && is_below e.what)) ≡ false →
    (today ≤ e.key.day) × ((is_leak e.what && is_below e.what) ≡ false)
in_place e today passes =
    let parts = or_parts (nat_lt e.key.day today) (is_leak e.what && is_below e.what) passes in
    (ltb-false e.key.day today parts.0, parts.1)

-- one more event
pub rises_next : (events : List Event) (i : ℕ) (e : Event) (today : ℕ) → i < length events → e ≡ get_or events i e →
    (nat_lt e.key.day today || (is_leak e.what && is_below e.what)) ≡ false →
    (Rises e.key.day (drop (i + 1) events) → Rises today (drop i events)) × (Rises today (drop i events) → Rises e.key.day (drop (i + 1) events))
rises_next events i e today within is passes =
    let place = in_place e today passes in
    let rest = rest_is events i e within is in
    (λ after. subst (Rises today) (sym rest) (place.0, place.1, after), λ here. (subst (Rises today) rest here).2)

-- an event that is out of order
pub rises_not : (events : List Event) (i : ℕ) (e : Event) (today : ℕ) → i < length events → e ≡ get_or events i e →
    (nat_lt e.key.day today || (is_leak e.what && is_below e.what)) ≡ true → Rises today (drop i events) → ⊥
rises_not events i e today within is fails rises =
    let here = subst (Rises today) (rest_is events i e within is) rises in
    elim (or_cases (nat_lt e.key.day today) (is_leak e.what && is_below e.what) fails) [
      | inl early ↦ omega (arith, ltb-true e.key.day today early, here.0)
      | inr both ↦ true≢false (sym both ∙ here.1)
    ]

-- after the last event
pub rises_end : (events : List Event) (i today : ℕ) → length events ≤ i → Rises today (drop i events)
rises_end events i today past = subst (Rises today) (sym (drop_all i events past)) tt

-- ---- open leaks

-- before the first event
pub at_first : (kind : Kind) (events : List Event) → Rises 0 events → IsAt kind none_open events 0
at_first kind events rises = record { today = 0; tells = tells_none kind; rises = rises }

module _ (kind : Kind) (leaks : OpenLeaks) (events : List Event) (i : ℕ) (at : IsAt kind leaks events i) where
  -- unsettled leaks at a place
  pub open_is : is_unsettled kind (take i events) ≡ is_open leaks
  open_is = unsettled_is kind leaks at.today (take i events) at.tells

  module _ (e : Event) (within : i < length events) (is : e ≡ get_or events i e) where
    -- the summary with the event at the place
    told : Tells kind (with_event kind leaks e) e.key.day (take i events ++ e ∷ [])
    told =
        let here = subst (Rises at.today) (rest_is events i e within is) at.rises in
        tells_more kind leaks at.today (take i events) e at.tells here.0 here.1

    -- at the next place
    pub at_next : IsAt kind (with_event kind leaks e) events (i + 1)
    at_next = record {
      today = e.key.day;
      tells = subst (Tells kind (with_event kind leaks e) e.key.day) (sym (front_is events i e within is)) told;
      rises = (subst (Rises at.today) (rest_is events i e within is) at.rises).2;
    }

    -- whether a tag can close at the event
    pub closes_is : law.closes kind (take i events) e ≡ not (is_open (with_event kind leaks e))
    closes_is = ap not (unsettled_is kind (with_event kind leaks e) e.key.day (take i events ++ e ∷ []) told)

-- ---- tags

-- the element at a place
stands_same : (xs : List Event) (i : ℕ) (x y : Event) → slice_get xs i ≡ Some y → x ≡ get_or xs i x → i < length xs → y ≡ x
stands_same [] i x y stands is within = absurd (omega arith)
stands_same (z ∷ xs) zero x y stands is within = cc
stands_same (z ∷ xs) (suc i) x y stands is within = stands_same xs i x y stands is (omega (arith, within))

-- the element is at the place
pub stands_there : (xs : List Event) (i : ℕ) (x : Event) → x ≡ get_or xs i x → i < length xs → slice_get xs i ≡ Some x
stands_there [] i x is within = absurd (omega arith)
stands_there (z ∷ xs) zero x is within = ap Some (sym is)
stands_there (z ∷ xs) (suc i) x is within = stands_there xs i x is (omega (arith, within))

module _ (kind : Kind) (leaks : OpenLeaks) (events : List Event) (i : ℕ) (at : IsAt kind leaks events i) (e : Event) (within : i < length events)
    (is : e ≡ get_or events i e) where
  -- the closing that is searched from this place on
  abbrev first_closing : ℕ → Option Event
  first_closing n = first_from (λ front x _. law.closes kind front x) (take n events) (drop n events)

  -- the closing is here if no leak is open after the event
  pub closing_here : is_open (with_event kind leaks e) ≡ false → option_map (λ x. x.key) (first_closing i) ≡ Some e.key
  closing_here shut =
      let closed : law.closes kind (take i events) e ≡ true = closes_is kind leaks events i at e within is ∙ ap not shut in
      ap (λ rest. option_map (λ x. x.key) (first_from (λ front x _. law.closes kind front x) (take i events) rest)) (rest_is events i e within is)
      ∙ rw closed refl

  -- otherwise the closing is later
  pub closing_later : is_open (with_event kind leaks e) ≡ true → first_closing i ≡ first_closing (i + 1)
  closing_later open_still =
      let closed : law.closes kind (take i events) e ≡ false = closes_is kind leaks events i at e within is ∙ ap not open_still in
      ap (λ rest. first_from (λ front x _. law.closes kind front x) (take i events) rest) (rest_is events i e within is)
      ∙ rw closed (ap (λ front. first_from (λ f x _. law.closes kind f x) front (drop (i + 1) events)) (sym (front_is events i e within is)))

  -- whether a tag opens
  opens_is : law.opens kind (take i events) e ≡ (is_leak e.what && not (is_open leaks))
  opens_is = ap (λ b. is_leak e.what && not b) (open_is kind leaks events i at)

  -- no tag opens
  pub span_none : (leak : Event) → slice_get events i ≡ Some leak → (is_leak e.what && not (is_open leaks)) ≡ false →
      law.span_at kind events (take i events) leak (drop (i + 1) events) ≡ None
  span_none leak stands opens =
      let none : law.opens kind (take i events) e ≡ false = opens_is ∙ opens in
      ap (λ x. law.span_at kind events (take i events) x (drop (i + 1) events)) (stands_same events i e leak stands is within) ∙ rw none refl

  -- the tag that opens
  abbrev tag : Option ℕ → Option Key → Bool → Option Span
  tag attempted closed removable = Some (record { detected = e.key; attempted = attempted; closed = closed; removable = removable })

  -- the tag that opens is the one in the definition
  pub span_some : (leak : Event) → slice_get events i ≡ Some leak → (is_leak e.what && not (is_open leaks)) ≡ true →
      (attempted : Option ℕ) (closed : Option Key) (removable : Bool) → attempted ≡ law.attempt_after (drop (i + 1) events) →
      closed ≡ option_map (λ x. x.key) (first_closing (i + 1)) → removable ≡ law.is_removable kind events closed →
      law.span_at kind events (take i events) leak (drop (i + 1) events) ≡ tag attempted closed removable
  span_some leak stands opens attempted closed removable attempted_is closed_is removable_is =
      let some : law.opens kind (take i events) e ≡ true = opens_is ∙ opens in
      let closing : law.closing_of kind (take i events) e (drop (i + 1) events) ≡ closed =
      ap (λ front. option_map (λ x. x.key) (first_from (λ f x _. law.closes kind f x) front (drop (i + 1) events))) (sym (front_is events i e within is))
      ∙ sym closed_is in
      ap (λ x. law.span_at kind events (take i events) x (drop (i + 1) events)) (stands_same events i e leak stands is within)
      ∙ rw some (
      ap (λ x. tag x (law.closing_of kind (take i events) e (drop (i + 1) events))
      (law.is_removable kind events (law.closing_of kind (take i events) e (drop (i + 1) events)))) (sym attempted_is)
      ∙ ap (λ x. tag attempted x (law.is_removable kind events x)) closing
      ∙ ap (tag attempted closed) (sym removable_is)
      )

-- ---- the next attempt

module _ (events : List Event) (i : ℕ) (e : Event) (within : i < length events) (is : e ≡ get_or events i e) where
  -- an attempt is the first one
  pub attempt_here : is_attempt e.what ≡ true → law.attempt_after (drop i events) ≡ Some e.key.day
  attempt_here attempts = ap law.attempt_after (rest_is events i e within is) ∙ rw attempts refl

  -- another event is skipped
  pub attempt_past : is_attempt e.what ≡ false → law.attempt_after (drop i events) ≡ law.attempt_after (drop (i + 1) events)
  attempt_past fails = ap law.attempt_after (rest_is events i e within is) ∙ rw fails refl

  -- events are skipped by a search ahead
  pub ahead_past : (from : ℕ) → ((k : ℕ) → from ≤ k → k ≤ i → law.attempt_after (drop k events) ≡ law.attempt_after (drop i events)) →
      is_attempt e.what ≡ false → (k : ℕ) → from ≤ k → k ≤ i + 1 → law.attempt_after (drop k events) ≡ law.attempt_after (drop (i + 1) events)
  ahead_past from ahead fails k low high = elim (cases_lt i k) [
    | inl past ↦ ap (λ n. law.attempt_after (drop n events)) (omega (arith, past, high))
    | inr by ↦ ahead k low by ∙ attempt_past fails
  ]

-- no attempt follows the last event
pub attempt_none : (events : List Event) (i : ℕ) → length events ≤ i → law.attempt_after (drop i events) ≡ None
attempt_none events i past = ap law.attempt_after (drop_all i events past)

-- ---- leaks while none is open

-- leaks from their parts
abbrev leaks_of : Bool → Option Days → Leaks
leaks_of delayed waiting = record { delayed = delayed; waiting = waiting }

-- without leaks, none is delayed and none waits
parts_none : (delayed : Bool) (waiting : Option Days) → (delayed || is_some waiting) ≡ false → leaks_of delayed waiting ≡ no_leaks
parts_none true waiting none = absurd (true≢false none)
parts_none false (Some days) none = absurd (true≢false none)
parts_none false None none = refl

-- a summary without leaks is `no_leaks`
none_is : (leaks : Leaks) → has_leaks leaks ≡ false → leaks ≡ no_leaks
none_is leaks none = parts_none leaks.delayed leaks.waiting none

-- no leaks stay none if no leak is found
none_stay : (all late delays : Bool) (day : ℕ) → opened (reached (settled no_leaks all late) delays day) false day ≡ no_leaks
none_stay true late true day = refl
none_stay true late false day = refl
none_stay false late true day = refl
none_stay false late false day = refl

-- settling no leaks changes nothing
none_settled : (all late : Bool) → settled no_leaks all late ≡ no_leaks
none_settled true late = refl
none_settled false late = refl

-- one of three tests
one_of : (a b c : Bool) → (a ≡ true) ⊎ ((b ≡ true) ⊎ (c ≡ true)) → (a || b || c) ≡ true
one_of a b c (inl x) = rw x refl
one_of true b c (inr (inl x)) = refl
one_of false b c (inr (inl x)) = rw x refl
one_of a b c (inr (inr x)) = rw x (or_true (a || b))

-- none of three tests
none_of : (a b c : Bool) → a ≡ false → b ≡ false → c ≡ false → (a || b || c) ≡ false
none_of a b c x y z = rw (x, y, z) refl

module _ (kind : Kind) (leaks : OpenLeaks) (e : Event) where
  -- no leaks of a kind stay none at an event that is no leak
  sort_shut : (sort : Leaks) (all late of_sort : Bool) → is_leak e.what ≡ false → has_leaks sort ≡ false →
      has_leaks (leaks_with sort all late (is_leak e.what && of_sort) e) ≡ false
  sort_shut sort all late of_sort passes none =
      ap (λ b. has_leaks (leaks_with sort all late (b && of_sort) e)) passes
      ∙ ap (λ x. has_leaks (leaks_with x all late false e)) (none_is sort none)
      ∙ ap has_leaks (none_stay all late (delays_with_reading e.what) e.key.day)

  -- if no leak is open, none is open after an event that is no leak
  pub stays_shut : is_leak e.what ≡ false → is_open leaks ≡ false → is_open (with_event kind leaks e) ≡ false
  stays_shut passes shut =
      let parts = or_parts (has_leaks leaks.readings || has_leaks leaks.drips) (has_leaks leaks.sensors) shut in
      let first = or_parts (has_leaks leaks.readings) (has_leaks leaks.drips) parts.0 in
      let late = settles_delayed kind leaks e in
      let next = with_event kind leaks e in
      none_of (has_leaks next.readings) (has_leaks next.drips) (has_leaks next.sensors)
      (sort_shut leaks.readings (settles_readings leaks e) late (is_reading e.what) passes first.0)
      (sort_shut leaks.drips (settles_drips leaks e) late (is_look e.what) passes first.1)
      (sort_shut leaks.sensors (settles_sensors e) late (is_sensor e.what) passes parts.1)

  -- a leak of a kind opens one of that kind
  sort_opens : (sort : Leaks) (all late opens : Bool) → opens ≡ true → has_leaks (leaks_with sort all late opens e) ≡ true
  sort_opens sort all late opens finds =
      ap (λ b. has_leaks (leaks_with sort all late b e)) finds
      ∙ or_true (reached (settled sort all late) (delays_with_reading e.what) e.key.day).delayed

  -- after a leak, one is open
  pub leak_opens : is_leak e.what ≡ true → is_open (with_event kind leaks e) ≡ true
  leak_opens finds =
      let late = settles_delayed kind leaks e in
      let next = with_event kind leaks e in
      let r = is_leak e.what && is_reading e.what in
      let d = is_leak e.what && is_look e.what in
      let s = is_leak e.what && is_sensor e.what in
      one_of (has_leaks next.readings) (has_leaks next.drips) (has_leaks next.sensors)
      (elim (or_cases (r || d) s (sym (one_of_sorts e.what) ∙ finds)) [
        | inl two ↦ elim (or_cases r d two) [
          | inl x ↦ inl (sort_opens leaks.readings (settles_readings leaks e) late r x)
          | inr x ↦ inr (inl (sort_opens leaks.drips (settles_drips leaks e) late d x))
        ]
        | inr x ↦ inr (inr (sort_opens leaks.sensors (settles_sensors e) late s x))
      ])

  -- without leaks of a kind, it does not matter what is settled
  sort_anew : (sort : Leaks) (all late all2 late2 opens : Bool) → has_leaks sort ≡ false →
      leaks_with no_leaks all late opens e ≡ leaks_with sort all2 late2 opens e
  sort_anew sort all late all2 late2 opens none =
      ap (λ x. opened (reached x (delays_with_reading e.what) e.key.day) opens e.key.day)
      (none_settled all late ∙ sym (none_settled all2 late2) ∙ ap (λ x. settled x all2 late2) (sym (none_is sort none)))

  -- open leaks from their parts
  abbrev open_of : Leaks → Leaks → Leaks → Bool → BelowMonths → OpenLeaks
  open_of readings drips sensors attempted below =
      record { readings = readings; drips = drips; sensors = sensors; attempted = attempted; below = below }

  -- if no leak is open, a leak starts over
  pub leak_begins : is_leak e.what ≡ true → is_open leaks ≡ false → with_event kind none_open e ≡ with_event kind leaks e
  leak_begins finds shut =
      let parts = or_parts (has_leaks leaks.readings || has_leaks leaks.drips) (has_leaks leaks.sensors) shut in
      let first = or_parts (has_leaks leaks.readings) (has_leaks leaks.drips) parts.0 in
      let late = settles_delayed kind leaks e in
      let none = with_event kind none_open e in
      let next = with_event kind leaks e in
      let late0 = settles_delayed kind none_open e in
      ap (λ x. open_of x none.drips none.sensors none.attempted none.below)
      (sort_anew leaks.readings (settles_readings none_open e) late0 (settles_readings leaks e) late (is_leak e.what && is_reading e.what) first.0)
      ∙ ap (λ x. open_of next.readings x none.sensors none.attempted none.below)
      (sort_anew leaks.drips (settles_drips none_open e) late0 (settles_drips leaks e) late (is_leak e.what && is_look e.what) first.1)
      ∙ ap (λ x. open_of next.readings next.drips x none.attempted none.below)
      (sort_anew leaks.sensors (settles_sensors e) late0 (settles_sensors e) late (is_leak e.what && is_sensor e.what) parts.1)
      ∙ rw finds refl

-- ---- one step of a walk

module _ (kind : Kind) (events : List Event) (i : ℕ) (e : Event) (within : i < length events) (is : e ≡ get_or events i e) where
  -- the tags from a place on, with the one that opens there
  tags_here : tags_from kind events i ≡ cons_option (law.span_at kind events (take i events) e (drop (i + 1) events)) (tags_from kind events (i + 1))
  tags_here =
      each_more (law.span_at kind events) events i e within
      ∙ ap (λ x. cons_option (law.span_at kind events (take i events) x (drop (i + 1) events)) (tags_from kind events (i + 1))) (sym is)

  module _ (walk : Walk) (walks : Walks kind walk events i) where
    -- no tag opens here
    tags_later : (is_leak e.what && not (is_open walks.seen)) ≡ false → tags_from kind events i ≡ tags_from kind events (i + 1)
    tags_later opens =
        tags_here
        ∙ ap (λ given. cons_option given (tags_from kind events (i + 1)))
        (span_none kind walks.seen events i walks.at e within is e (stands_there events i e is within) opens)

    -- without a tag, no leak is open
    shut_is : walk.tag ≡ None → is_open walks.seen ≡ false
    shut_is none = sym walks.has_tag ∙ ap is_some none

    -- with a tag, some leak is open
    open_is_so : (tag : OpenTag) → walk.tag ≡ Some tag → is_open walks.seen ≡ true
    open_is_so tag some = sym walks.has_tag ∙ ap is_some some

    -- the next attempt is valid from the next place on
    next_still : IsNext walk.next events (i + 1)
    next_still k low high = walks.next k (omega (arith, low)) high

    -- no tag is open, and none opens
    pub walks_past : walk.tag ≡ None → is_leak e.what ≡ false → Walks kind walk events (i + 1)
    walks_past none passes = record {
      seen = with_event kind walks.seen e;
      at = at_next kind walks.seen events i walks.at e within is;
      has_tag = ap is_some none ∙ sym (stays_shut kind walks.seen e passes (shut_is none));
      same = λ some. absurd (true≢false (sym some ∙ ap is_some none));
      next = next_still;
      pair = walks.pair;
    }

    -- a tag opens
    pub walks_open : (new : Walk) (tag : OpenTag) → walk.tag ≡ None → is_leak e.what ≡ true → new.tag ≡ Some tag → new.leaks ≡ with_event kind none_open e →
        IsNext new.next events (i + 1) → new.pair ≡ walk.pair → Walks kind new events (i + 1)
    walks_open new tag none finds some leaks_are next pair_is = record {
      seen = with_event kind walks.seen e;
      at = at_next kind walks.seen events i walks.at e within is;
      has_tag = ap is_some some ∙ sym (leak_opens kind walks.seen e finds);
      same = λ _. leaks_are ∙ leak_begins kind walks.seen e finds (shut_is none);
      next = next;
      pair = subst (λ o. IfSome o (λ pair. IsPairFor kind pair events)) (sym pair_is) walks.pair;
    }

    -- the new tag is the first of the rest
    pub rest_open : (attempted : Option ℕ) → walk.tag ≡ None → is_leak e.what ≡ true → attempted ≡ law.attempt_after (drop (i + 1) events) →
        rest_of kind events walk.tag i ≡ rest_of kind events (Some (record { detected = e.key; attempted = attempted })) (i + 1)
    rest_open attempted none finds attempted_is =
        let closed = closing_from kind events (i + 1) in
        rw none (tags_here
        ∙ ap (λ given. cons_option given (tags_from kind events (i + 1)))
        (span_some kind walks.seen events i walks.at e within is e (stands_there events i e is within)
        (and_from (is_leak e.what) (not (is_open walks.seen)) finds (ap not (shut_is none)))
        attempted closed (law.is_removable kind events closed) attempted_is refl refl))

    -- the tag stays open
    pub walks_on : (new : Walk) (tag : OpenTag) → walk.tag ≡ Some tag → new.tag ≡ Some tag → new.leaks ≡ with_event kind walk.leaks e → new.next ≡ walk.next →
        new.pair ≡ walk.pair → is_open new.leaks ≡ true → Walks kind new events (i + 1)
    walks_on new tag some still leaks_are next pair_is open_still =
        let same : new.leaks ≡ with_event kind walks.seen e = leaks_are ∙ ap (λ x. with_event kind x e) (walks.same (ap is_some some)) in
        record {
          seen = with_event kind walks.seen e;
          at = at_next kind walks.seen events i walks.at e within is;
          has_tag = ap is_some still ∙ sym open_still ∙ ap is_open same;
          same = λ _. same;
          next = subst (λ (x : NextAttempt). IsNext x events (i + 1)) (sym next) next_still;
          pair = subst (λ o. IfSome o (λ pair. IsPairFor kind pair events)) (sym pair_is) walks.pair;
        }

    -- the tag is still the first of the rest
    pub rest_on : (leaks : OpenLeaks) (tag : OpenTag) → walk.tag ≡ Some tag → leaks ≡ with_event kind walk.leaks e → is_open leaks ≡ true →
        rest_of kind events (Some tag) i ≡ rest_of kind events (Some tag) (i + 1)
    rest_on leaks tag some leaks_are open_still =
        let same : leaks ≡ with_event kind walks.seen e = leaks_are ∙ ap (λ x. with_event kind x e) (walks.same (ap is_some some)) in
        ap (λ x. closed_tag kind events tag (option_map (λ y. y.key) x) ∷ tags_from kind events i)
        (closing_later kind walks.seen events i walks.at e within is (sym (ap is_open same) ∙ open_still))
        ∙ ap (λ x. closed_tag kind events tag (closing_from kind events (i + 1)) ∷ x)
        (tags_later (ap (λ b. is_leak e.what && not b) (open_is_so tag some) ∙ and_false (is_leak e.what)))

    -- the tag closes
    pub walks_shut : (new : Walk) (tag : OpenTag) → walk.tag ≡ Some tag → new.tag ≡ None → (leaks : OpenLeaks) → leaks ≡ with_event kind walk.leaks e →
        new.next ≡ walk.next → IfSome new.pair (λ pair. IsPairFor kind pair events) → is_open leaks ≡ false → Walks kind new events (i + 1)
    walks_shut new tag some none leaks leaks_are next pair shut =
        let same : leaks ≡ with_event kind walks.seen e = leaks_are ∙ ap (λ x. with_event kind x e) (walks.same (ap is_some some)) in
        record {
          seen = with_event kind walks.seen e;
          at = at_next kind walks.seen events i walks.at e within is;
          has_tag = ap is_some none ∙ sym shut ∙ ap is_open same;
          same = λ have. absurd (true≢false (sym have ∙ ap is_some none));
          next = subst (λ (x : NextAttempt). IsNext x events (i + 1)) (sym next) next_still;
          pair = pair;
        }

    -- the tag closes with this event
    pub rest_shut : (leaks : OpenLeaks) (tag : OpenTag) → walk.tag ≡ Some tag → leaks ≡ with_event kind walk.leaks e → is_open leaks ≡ false →
        rest_of kind events (Some tag) i ≡ closed_tag kind events tag (Some e.key) ∷ tags_from kind events (i + 1)
    rest_shut leaks tag some leaks_are shut =
        let same : leaks ≡ with_event kind walks.seen e = leaks_are ∙ ap (λ x. with_event kind x e) (walks.same (ap is_some some)) in
        ap (λ x. closed_tag kind events tag x ∷ tags_from kind events i)
        (closing_here kind walks.seen events i walks.at e within is (sym (ap is_open same) ∙ shut))
        ∙ ap (λ x. closed_tag kind events tag (Some e.key) ∷ x)
        (tags_later (ap (λ b. is_leak e.what && not b) (open_is_so tag some) ∙ and_false (is_leak e.what)))

-- after the last event
pub rest_end : (kind : Kind) (events : List Event) (tag : OpenTag) → rest_of kind events (Some tag) (length events) ≡ closed_tag kind events tag None ∷ []
rest_end kind events tag =
    let closes : closing_from kind events (length events) ≡ None =
    ap (λ rest. option_map (λ e. e.key) (first_from (λ front e _. law.closes kind front e) (take (length events) events) rest))
    (drop_all (length events) events (omega arith)) in
    let none : tags_from kind events (length events) ≡ [] =
    ap (λ rest. each_from (law.span_at kind events) (take (length events) events) rest) (drop_all (length events) events (omega arith)) in
    ap (λ x. closed_tag kind events tag x ∷ tags_from kind events (length events)) closes
    ∙ ap (λ x. closed_tag kind events tag None ∷ x) none
