-- What settles the open leaks of each kind, and the open leaks after one more event.
use Rattle.std.proofs.Common.{◌≡◌, ℕ, ◌+◌, Bool, true, false, not, ◌&&◌, ◌||◌, nat_eq, nat_le, List, [], ◌∷◌, ◌++◌, refl, sym, ap, ◌∙◌}
use Rattle.std.specs.List.{list_any}
use Rattle.std.proofs.lemmas.Bool.{false≢true}
use Rattle.ldar_days.specs.Calendar.{month_of}
use Rattle.fact_kinds.specs.declared.class.Kind.{Kind}
use Rattle.ldar_law.specs.declared.event.Event.{Event}
use Rattle.ldar_law.specs.declared.event.Happening.{Happening}
use Rattle.ldar_law.specs.declared.event.Happening.TheVariants.{Read, Look, Attempt, Delay, Release, Sensor, Evidence, Retire}
use Rattle.ldar_law.specs.declared.numbers.TheConstants.{REPAIR_DAYS}
use Rattle.ldar_law.specs.Happenings.{is_leak, is_reading_or_drip, is_look, is_sensor, is_below, is_dry, is_attempt, is_complete, delays_with_reading}
use Rattle.ldar_law.specs.Happenings.{is_retire}
use Rattle.ldar_law.specs.Settling as law
use Rattle.leak_tags.specs.OpenLeaks.{is_reading}
use Rattle.leak_tags.specs.Telling.{since_leak, some_open}
use Rattle.leak_tags.proofs.AfterLemmas.{and_true, and_false, and_over, or_swap, some_same, some_at, some_or, some_none, some_more, somewhere_is_after}
use Rattle.leak_tags.proofs.AfterLemmas.{somewhere_before, any_more, since_that_leak}
use Rattle.leak_tags.proofs.ToldLemmas.{Sums}

-- ---- some open leak

-- the open leaks of a kind, as a test of some of many
pub sums_open : (kind : Kind) (is_sort : Happening → Bool) (events : List Event) → Sums (some_open kind is_sort events)
sums_open kind is_sort events =
    let here : Event → List Event → Bool = λ e after. (is_leak e.what && is_sort e.what) && not (law.is_settled kind e after) in
    let seen : (Bool → ℕ → Bool) → Event → List Event → Bool = λ p e after. p (law.has_delay_between e after) e.key.day in
    record {
      same = λ p q agree.
          some_same (λ e after. here e after && seen p e after) (λ e after. here e after && seen q e after)
          (λ e after. ap (λ b. here e after && b) (agree (law.has_delay_between e after) e.key.day)) events;
      either = λ p q.
          some_same (λ e after. here e after && (seen p e after || seen q e after))
          (λ e after. (here e after && seen p e after) || (here e after && seen q e after))
          (λ e after. and_over (here e after) (seen p e after) (seen q e after)) events
          ∙ some_or (λ e after. here e after && seen p e after) (λ e after. here e after && seen q e after) events;
      none = some_same (λ e after. here e after && false) (λ _ _. false) (λ e after. and_false (here e after)) events ∙ some_none events;
    }

-- a leak is settled after one more event exactly if it was before or that event settles it
settled_more : (kind : Kind) (e : Event) (after : List Event) (v : Event) →
    law.is_settled kind e (after ++ v ∷ []) ≡ (law.is_settled kind e after || law.settles kind e after v)
settled_more kind e after v = somewhere_before (λ between later. law.settles kind e between later) [] after v

-- a delay is between, with one more event
delay_more : (e : Event) (after : List Event) (v : Event) →
    law.has_delay_between e (after ++ v ∷ [])
    ≡ ((delays_with_reading v.what && nat_le v.key.day (e.key.day + REPAIR_DAYS)) || law.has_delay_between e after)
delay_more e after v =
    any_more (λ x. delays_with_reading x.what && nat_le x.key.day (e.key.day + REPAIR_DAYS)) after v
    ∙ or_swap (law.has_delay_between e after) (delays_with_reading v.what && nat_le v.key.day (e.key.day + REPAIR_DAYS))

-- a test that matters only if another one passes
where_so : (b st a a' x : Bool) → (b ≡ true → a ≡ a') → ((b && not (st || a)) && x) ≡ ((b && not (st || a')) && x)
where_so true st a a' x so = ap (λ s. not (st || s) && x) (so refl)
where_so false st a a' x so = refl

-- not settled before and not settled now
regroup : (b st a x : Bool) → ((b && not (st || a)) && x) ≡ ((b && not st) && (not a && x))
regroup true true a x = refl
regroup true false a x = refl
regroup false st a x = refl

module _ (kind : Kind) (is_sort : Happening → Bool) (events : List Event) (v : Event) (all late : Bool)
    (fits : (before : List Event) (e : Event) (after : List Event) → before ++ e ∷ after ≡ events → (is_leak e.what && is_sort e.what) ≡ true →
    law.settles kind e after v ≡ (all || (late && law.has_delay_between e after))) where
  -- the event is a delay and reaches a leak of this day
  abbrev comes_to : ℕ → Bool
  comes_to from = delays_with_reading v.what && nat_le v.key.day (from + REPAIR_DAYS)

  -- a leak of the kind, seen in a list
  abbrev of_sort : Event → Bool
  of_sort e = is_leak e.what && is_sort e.what

  -- some open leak of the kind passes after one more event
  pub open_more : (p : Bool → ℕ → Bool) → some_open kind is_sort (events ++ v ∷ []) p
      ≡ (some_open kind is_sort events (λ l from. not (all || (late && l)) && p (comes_to from || l) from) || (of_sort v && p false v.key.day))
  open_more p =
      some_more (λ e after. (of_sort e && not (law.is_settled kind e after)) && p (law.has_delay_between e after) e.key.day) events v
      ∙ ap (λ b. b || ((of_sort v && true) && p false v.key.day))
      (some_at events
      (λ e after. (of_sort e && not (law.is_settled kind e (after ++ v ∷ []))) && p (law.has_delay_between e (after ++ v ∷ [])) e.key.day)
      (λ e after. (of_sort e && not (law.is_settled kind e after))
      && (not (all || (late && law.has_delay_between e after)) && p (comes_to e.key.day || law.has_delay_between e after) e.key.day))
      (λ before e after at.
      ap (λ b. (of_sort e && not b) && p (law.has_delay_between e (after ++ v ∷ [])) e.key.day) (settled_more kind e after v)
      ∙ ap (λ b. (of_sort e && not (law.is_settled kind e after || law.settles kind e after v)) && p b e.key.day) (delay_more e after v)
      ∙ where_so (of_sort e) (law.is_settled kind e after) (law.settles kind e after v) (all || (late && law.has_delay_between e after))
      (p (comes_to e.key.day || law.has_delay_between e after) e.key.day) (fits before e after at)
      ∙ regroup (of_sort e) (law.is_settled kind e after) (all || (late && law.has_delay_between e after))
      (p (comes_to e.key.day || law.has_delay_between e after) e.key.day))
      [] events refl)
      ∙ ap (λ b. some_open kind is_sort events (λ l from. not (all || (late && l)) && p (comes_to from || l) from) || (b && p false v.key.day))
      (and_true (of_sort v))

-- ---- kinds

-- what a reading is
pub reading_is : (what : Happening) → is_reading what ≡ true → (is_reading_or_drip what ≡ true) × (is_look what ≡ false) × (is_sensor what ≡ false)
reading_is (Read _ _ _ _ _ _) e = (refl, refl, refl)
reading_is (Look _ _ _) e = absurd (false≢true e)
reading_is (Attempt _) e = absurd (false≢true e)
reading_is (Delay _ _ _) e = absurd (false≢true e)
reading_is Release e = absurd (false≢true e)
reading_is (Sensor _ _) e = absurd (false≢true e)
reading_is (Evidence _) e = absurd (false≢true e)
reading_is Retire e = absurd (false≢true e)

-- what a drip is
pub drip_is : (what : Happening) → is_look what ≡ true → (is_reading_or_drip what ≡ true) × (is_look what ≡ true) × (is_sensor what ≡ false)
drip_is (Read _ _ _ _ _ _) e = absurd (false≢true e)
drip_is (Look _ _ _) e = (refl, refl, refl)
drip_is (Attempt _) e = absurd (false≢true e)
drip_is (Delay _ _ _) e = absurd (false≢true e)
drip_is Release e = absurd (false≢true e)
drip_is (Sensor _ _) e = absurd (false≢true e)
drip_is (Evidence _) e = absurd (false≢true e)
drip_is Retire e = absurd (false≢true e)

-- what a sensor's indication is
pub sensor_is : (what : Happening) → is_sensor what ≡ true → (is_reading_or_drip what ≡ false) × (is_look what ≡ false) × (is_sensor what ≡ true)
sensor_is (Read _ _ _ _ _ _) e = absurd (false≢true e)
sensor_is (Look _ _ _) e = absurd (false≢true e)
sensor_is (Attempt _) e = absurd (false≢true e)
sensor_is (Delay _ _ _) e = absurd (false≢true e)
sensor_is Release e = absurd (false≢true e)
sensor_is (Sensor _ _) e = (refl, refl, refl)
sensor_is (Evidence _) e = absurd (false≢true e)
sensor_is Retire e = absurd (false≢true e)

-- a leak is of one of three kinds
pub one_of_sorts : (what : Happening) → is_leak what ≡ ((is_leak what && is_reading what) || (is_leak what && is_look what) || (is_leak what && is_sensor what))
one_of_sorts (Read _ _ _ _ _ true) = refl
one_of_sorts (Read _ _ _ _ _ false) = refl
one_of_sorts (Look _ _ true) = refl
one_of_sorts (Look _ _ false) = refl
one_of_sorts (Attempt _) = refl
one_of_sorts (Delay _ _ _) = refl
one_of_sorts Release = refl
one_of_sorts (Sensor _ true) = refl
one_of_sorts (Sensor _ false) = refl
one_of_sorts (Evidence _) = refl
one_of_sorts Retire = refl

-- a leak is no attempt
pub leak_is_no_attempt : (what : Happening) → is_leak what ≡ true → is_attempt what ≡ false
leak_is_no_attempt (Read _ _ _ _ _ _) e = refl
leak_is_no_attempt (Look _ _ _) e = refl
leak_is_no_attempt (Attempt _) e = absurd (false≢true e)
leak_is_no_attempt (Delay _ _ _) e = refl
leak_is_no_attempt Release e = refl
leak_is_no_attempt (Sensor _ _) e = refl
leak_is_no_attempt (Evidence _) e = refl
leak_is_no_attempt Retire e = refl

-- ---- what settles a leak, by its kind

-- a delay between, and a second reading
sort_late : (v d w : Bool) → ((v && d) && w) ≡ ((v && w) && d)
sort_late true true true = refl
sort_late true true false = refl
sort_late true false true = refl
sort_late true false false = refl
sort_late false d w = refl

-- regroups the tests for a reading
settles_one : (x y r : Bool) → ((((x || false) || false) || y) || r) ≡ ((r || x) || y)
settles_one true y true = refl
settles_one true y false = refl
settles_one false true true = refl
settles_one false false true = refl
settles_one false true false = refl
settles_one false false false = refl

-- regroups the tests for a drip
settles_two : (x z y r : Bool) → ((((x || z) || false) || y) || r) ≡ (((r || x) || z) || y)
settles_two true z y true = refl
settles_two true z y false = refl
settles_two false true y true = refl
settles_two false true y false = refl
settles_two false false true true = refl
settles_two false false false true = refl
settles_two false false true false = refl
settles_two false false false false = refl

-- regroups the tests for a sensor's indication
settles_three : (x y r : Bool) → ((x || y) || r) ≡ ((r || x) || y)
settles_three true y true = refl
settles_three true y false = refl
settles_three false true true = refl
settles_three false false true = refl
settles_three false true false = refl
settles_three false false false = refl

-- whether a leak is settled, from properties of the leak and of the rest
abbrev settles_by : (rd lk sn bl dr cp at vp dl ws rt : Bool) → Bool
settles_by rd lk sn bl dr cp at vp dl ws rt =
    (rd && bl && at) || (lk && dr && at) || (sn && cp) || (vp && bl && dl && ws) || rt

-- a reading
by_reading : (bl dr cp at vp dl ws rt : Bool) → settles_by true false false bl dr cp at vp dl ws rt ≡ ((rt || (bl && at)) || (((vp && bl) && ws) && dl))
by_reading bl dr cp at vp dl ws rt =
    ap (λ y. ((((bl && at) || false) || false) || y) || rt) (sort_late (vp && bl) dl ws)
    ∙ settles_one (bl && at) (((vp && bl) && ws) && dl) rt

-- a drip
by_drip : (bl dr cp at vp dl ws rt : Bool) → settles_by true true false bl dr cp at vp dl ws rt
    ≡ (((rt || (bl && at)) || (dr && at)) || (((vp && bl) && ws) && dl))
by_drip bl dr cp at vp dl ws rt =
    ap (λ y. ((((bl && at) || (dr && at)) || false) || y) || rt) (sort_late (vp && bl) dl ws)
    ∙ settles_two (bl && at) (dr && at) (((vp && bl) && ws) && dl) rt

-- a sensor's indication
by_sensor : (bl dr cp at vp dl ws rt : Bool) → settles_by false false true bl dr cp at vp dl ws rt ≡ ((rt || cp) || (((vp && bl) && ws) && dl))
by_sensor bl dr cp at vp dl ws rt =
    ap (λ y. (cp || y) || rt) (sort_late (vp && bl) dl ws)
    ∙ settles_three cp (((vp && bl) && ws) && dl) rt

module _ (kind : Kind) (v : Event) (attempted second : Bool) (e : Event) (after : List Event)
    (attempt_is : law.is_attempted after ≡ attempted) (second_is : law.was_below after v ≡ second) where
  -- what settles it, from properties of its kind and of the event
  abbrev settles_so : Bool → Bool → Bool → Bool
  settles_so rd lk sn =
      settles_by rd lk sn (is_below v.what) (is_dry v.what) (is_complete v.what) attempted (law.is_valve_or_pump kind) (law.has_delay_between e after) second
      (is_retire v.what)

  -- a delayed leak is settled by the second of two readings
  abbrev settles_late : Bool
  settles_late = (law.is_valve_or_pump kind && is_below v.what && second) && law.has_delay_between e after

  -- what settles it, by its kind
  settles_is : (rd lk sn : Bool) → is_reading_or_drip e.what ≡ rd → is_look e.what ≡ lk → is_sensor e.what ≡ sn →
      law.settles kind e after v ≡ settles_so rd lk sn
  settles_is rd lk sn of_rd of_lk of_sn = rw (of_rd, of_lk, of_sn, attempt_is, second_is) refl

  -- a reading that is a leak
  pub reading_settled : is_reading e.what ≡ true → law.settles kind e after v
      ≡ ((is_retire v.what || (is_below v.what && attempted)) || settles_late)
  reading_settled of_sort =
      let is = reading_is e.what of_sort in
      settles_is true false false is.0 is.1 is.2
      ∙ by_reading (is_below v.what) (is_dry v.what) (is_complete v.what) attempted (law.is_valve_or_pump kind) (law.has_delay_between e after) second
      (is_retire v.what)

  -- a drip
  pub drip_settled : is_look e.what ≡ true → law.settles kind e after v
      ≡ (((is_retire v.what || (is_below v.what && attempted)) || (is_dry v.what && attempted)) || settles_late)
  drip_settled of_sort =
      let is = drip_is e.what of_sort in
      settles_is true true false is.0 is.1 is.2
      ∙ by_drip (is_below v.what) (is_dry v.what) (is_complete v.what) attempted (law.is_valve_or_pump kind) (law.has_delay_between e after) second
      (is_retire v.what)

  -- a sensor's indication
  pub sensor_settled : is_sensor e.what ≡ true → law.settles kind e after v
      ≡ ((is_retire v.what || is_complete v.what) || settles_late)
  sensor_settled of_sort =
      let is = sensor_is e.what of_sort in
      settles_is false false true is.0 is.1 is.2
      ∙ by_sensor (is_below v.what) (is_dry v.what) (is_complete v.what) attempted (law.is_valve_or_pump kind) (law.has_delay_between e after) second
      (is_retire v.what)

-- ---- since the last leak

-- an attempt since the last leak
pub attempted_is : (events : List Event) → law.is_attempted events ≡ since_leak (λ e. is_attempt e.what) events
attempted_is events = somewhere_is_after (λ e after. is_attempt e.what && not (list_any (λ x. is_leak x.what) after)) [] events

-- a reading below the leak definition since the last leak, in the month before a later event's
pub was_below_is : (events : List Event) (later : Event) →
    law.was_below events later ≡ since_leak (λ e. is_below e.what && nat_eq (month_of e.key.day + 1) (month_of later.key.day)) events
was_below_is events later =
    somewhere_is_after
    (λ e after. is_below e.what && nat_eq (month_of e.key.day + 1) (month_of later.key.day) && not (list_any (λ x. is_leak x.what) after)) [] events

-- an attempt since a leak of a list is an attempt since its last leak
pub attempted_since : (before : List Event) (e : Event) (after : List Event) → is_leak e.what ≡ true →
    law.is_attempted after ≡ since_leak (λ x. is_attempt x.what) (before ++ e ∷ after)
attempted_since before e after leaks =
    attempted_is after ∙ sym (since_that_leak (λ x. is_attempt x.what) before e after leaks (leak_is_no_attempt e.what leaks))

-- a reading since a leak of a list is a reading since its last leak
pub below_since : (before : List Event) (e : Event) (after : List Event) (later : Event) → is_leak e.what ≡ true → is_below e.what ≡ false →
    law.was_below after later ≡ since_leak (λ x. is_below x.what && nat_eq (month_of x.key.day + 1) (month_of later.key.day)) (before ++ e ∷ after)
below_since before e after later leaks above =
    was_below_is after later
    ∙ sym (since_that_leak (λ x. is_below x.what && nat_eq (month_of x.key.day + 1) (month_of later.key.day)) before e after leaks
    (ap (λ b. b && nat_eq (month_of e.key.day + 1) (month_of later.key.day)) above))
