use Rattle.std.proofs.Common.{◌≡◌, ℕ, zero, suc, ◌+◌, ◌*◌, ◌/◌, ◌-◌, ◌≤◌, Bool, true, false, nat_le, Option, Some, None, IfSome, List, [], ◌∷◌, ◌++◌, refl}
use Rattle.std.proofs.Common.{sym, ◌∙◌, arith}
use Rattle.std.specs.Prelude.{nat_lt, if◌then◌else◌, filter_map, option_to_list}
use Rattle.std.specs.List.{AllByRecursion, cons_option, range_with_len}
use Rattle.std.proofs.Math.Bool.{or-true}
use Rattle.std.proofs.lemmas.Bool.{eq-eqb, leb-true, le-leb}
use Rattle.list_words.specs.Order.{Ascends}
use Rattle.list_words.specs.Ranges.{until}
use Rattle.list_words.specs.Words.{each_from}
use Rattle.ldar_days.specs.Calendar.{IsDay, last_day, month_of, end_by, week_last}
use Rattle.ldar_days.proofs.Months.{first_day-le, month_of-month}
use Rattle.fact_kinds.specs.declared.class.Class.{Class}
use Rattle.fact_kinds.specs.declared.key.Key.{Key}
use Rattle.fact_kinds.specs.Facts.{is_earlier}
use Rattle.fact_kinds.proofs.Cuts.{earlier_day}
use Rattle.ldar_law.specs.declared.duty.Duty.{Duty}
use Rattle.ldar_law.specs.declared.equipment.Equipment.{Equipment}
use Rattle.ldar_law.specs.declared.event.Event.{Event}
use Rattle.ldar_law.specs.Duties.{first_due, first_monitoring, monthly, quarterly, yearly, planned, weekly, drip, release, evidence, duties_of}
use Rattle.ldar_law.specs.DutyLaws.{comes_no_later, DutiesStandInOrder}
use Rattle.ldar_law.proofs.TestLemmas.{all_implied, ascends_implied}

all_joined : {X : Type 0} (P : X → Type 0) (xs ys : List X) → AllByRecursion P xs → AllByRecursion P ys → AllByRecursion P (xs ++ ys)
all_joined P [] ys h h' = h'
all_joined P (x ∷ xs) ys h h' = (h.0, all_joined P xs ys h.1 h')

-- a duty with this cause and due day
abbrev pub IsOf : ℕ → ℕ → Duty → Type 0
IsOf cause due d = (d.cause ≡ cause) × (d.due ≡ due)

-- a duty with this cause, due on this day or later
abbrev IsFrom : ℕ → ℕ → Duty → Type 0
IsFrom cause low d = (d.cause ≡ cause) × (low ≤ d.due)

-- duties of one cause in order of their due days, from a day on
abbrev IsBlock : ℕ → ℕ → List Duty → Type 0
IsBlock cause low ds = Ascends comes_no_later ds × AllByRecursion (IsFrom cause low) ds

-- duties in order, from a cause on
abbrev IsRest : ℕ → List Duty → Type 0
IsRest cause ds = Ascends comes_no_later ds × AllByRecursion (λ d. cause ≤ d.cause) ds

-- a duty of a cause and due day comes before later ones of the cause
within : (cause low : ℕ) (d e : Duty) → IsOf cause low d → IsFrom cause low e → comes_no_later d e ≡ true
within cause low d e this that =
    let same : d.cause ≡ e.cause = this.0 ∙ sym that.0 in
    let due : d.due ≡ low = this.1 in
    let later : low ≤ e.due = that.1 in
    let le : d.due ≤ e.due = omega (arith, due, later) in
    rw (eq-eqb d.cause e.cause same, le-leb d.due e.due le) (or-true (nat_lt d.cause e.cause))

-- a block from a later day on is a block from an earlier day on
block_later : (cause low later : ℕ) (ds : List Duty) → low ≤ later → IsBlock cause later ds → IsBlock cause low ds
block_later cause low later ds le block =
    (block.0, all_implied (IsFrom cause later) (IsFrom cause low) (λ d h. let due : later ≤ d.due = h.1 in (h.0, omega (arith, le, due))) ds block.1)

-- one more duty at the head
block_more : (cause low : ℕ) (o : Option Duty) (ds : List Duty) → IfSome o (IsOf cause low) → IsBlock cause low ds → IsBlock cause low (cons_option o ds)
block_more cause low None ds this block = block
block_more cause low (Some d) ds this block =
    let due : d.due ≡ low = this.1 in (
      (all_implied (IsFrom cause low) (λ e. comes_no_later d e ≡ true) (λ e that. within cause low d e this that) ds block.1, block.0),
      ((this.0, omega (arith, due)), block.1),
    )

-- a single duty
block_one : (cause low : ℕ) (o : Option Duty) → IfSome o (IsOf cause low) → IsBlock cause low (option_to_list o)
block_one cause low None this = (tt, tt)
block_one cause low (Some d) this = let due : d.due ≡ low = this.1 in ((tt, tt), ((this.0, omega (arith, due)), tt))

-- the duties of consecutive numbers whose due days do not decrease
block_range : (cause start : ℕ) (f : ℕ → Option Duty) (g : ℕ → ℕ) → ((n : ℕ) → start ≤ n → g n ≤ g (n + 1)) → ((n : ℕ) → IfSome (f n) (IsOf cause (g n))) →
    (low len : ℕ) → start ≤ low → IsBlock cause (g low) (filter_map f (range_with_len low len))
block_range cause start f g grows gives low zero h = (tt, tt)
block_range cause start f g grows gives low (suc len) h =
    block_more cause (g low) (f low) (filter_map f (range_with_len (low + 1) len)) (gives low)
    (block_later cause (g low) (g (low + 1)) (filter_map f (range_with_len (low + 1) len)) (grows low h)
    (block_range cause start f g grows gives (low + 1) len (omega (arith, h))))

-- the duties of a range of numbers whose due days do not decrease
block_until : (cause start : ℕ) (f : ℕ → Option Duty) (g : ℕ → ℕ) → ((n : ℕ) → start ≤ n → g n ≤ g (n + 1)) → ((n : ℕ) → IfSome (f n) (IsOf cause (g n))) →
    (low end : ℕ) → start ≤ low → IsBlock cause (g low) (filter_map f (until low end))
unfolding until
block_until cause start f g grows gives low end h = block_range cause start f g grows gives low (end - low) h

-- five days after a day
abbrev five_after : ℕ → ℕ
five_after day = end_by (day + 5)

five_grow : (a b : ℕ) → a ≤ b → five_after a ≤ five_after b
five_grow a b h = omega (arith, h)

-- the duties of events in order of their days
block_events : (cause : ℕ) (f : List Event → Event → List Event → Option Duty) →
    ((before : List Event) (e : Event) (after : List Event) → IfSome (f before e after) (IsOf cause (five_after e.key.day))) →
    (front events : List Event) (low : ℕ) → Ascends (λ a b. nat_le a.key.day b.key.day) events → AllByRecursion (λ e. low ≤ e.key.day) events
    → IsBlock cause (five_after low) (each_from f front events)
block_events cause f gives front [] low asc from = (tt, tt)
block_events cause f gives front (e ∷ events) low asc from =
    let later = all_implied (λ x. nat_le e.key.day x.key.day ≡ true) (λ x. e.key.day ≤ x.key.day) (λ x h. leb-true e.key.day x.key.day h) events asc.0 in
    block_later cause (five_after low) (five_after e.key.day) (cons_option (f front e events) (each_from f (front ++ e ∷ []) events))
    (five_grow low e.key.day from.0)
    (block_more cause (five_after e.key.day) (f front e events) (each_from f (front ++ e ∷ []) events) (gives front e events)
    (block_events cause f gives (front ++ e ∷ []) events e.key.day asc.1 later))

any_day : (events : List Event) → AllByRecursion (λ e. 0 ≤ e.key.day) events
any_day [] = tt
any_day (e ∷ events) = (omega arith, any_day events)

-- a block before the rest
joined : (cause low : ℕ) (xs ys : List Duty) → IsBlock cause low xs → IsRest (suc cause) ys → IsRest cause (xs ++ ys)
joined cause low [] ys block rest = (rest.0, all_implied (λ d. suc cause ≤ d.cause) (λ d. cause ≤ d.cause) (λ d h. omega (arith, h)) ys rest.1)
joined cause low (x ∷ xs) ys block rest =
    let both = joined cause low xs ys (block.0.1, block.1.1) rest in
    let of : x.cause ≡ cause = block.1.0.0 in
    let before_rest = all_implied (λ d. suc cause ≤ d.cause) (λ d. comes_no_later x d ≡ true)
    (λ d h. let lt : suc x.cause ≤ d.cause = omega (arith, of, h) in rw (le-leb (suc x.cause) d.cause lt) refl) ys rest.1 in (
      (all_joined (λ d. comes_no_later x d ≡ true) xs ys block.0.0 before_rest, both.0),
      (omega (arith, of), both.1),
    )

-- a single block
last_block : (cause low : ℕ) (xs : List Duty) → IsBlock cause low xs → IsRest cause xs
last_block cause low xs block =
    (block.0, all_implied (IsFrom cause low) (λ d. cause ≤ d.cause) (λ d h. let of : d.cause ≡ cause = h.0 in omega (arith, of)) xs block.1)

-- an optional duty under a test, as `IfSome`
given : (b : Bool) (d : Duty) (P : Duty → Type 0) → P d → IfSome (if b then Some d else None) P
given true d P h = h
given false d P h = tt

module _ (item : Equipment) (classes : List (Key × Class)) (startup : ℕ) (events : List Event) (skipped : List Bool) (day : ℕ) where
  pub first_form : IfSome (first_monitoring item classes startup events skipped day) (IsOf 1 (first_due item))
  unfolding first_monitoring
  first_form = given _ _ (IsOf 1 (first_due item)) (refl, refl)

  pub monthly_form : (month : ℕ) → IfSome (monthly item classes startup events skipped day month) (IsOf 2 (last_day month))
  unfolding monthly
  monthly_form month = given _ _ (IsOf 2 (last_day month)) (refl, refl)

  pub quarterly_form : (month : ℕ) → IfSome (quarterly item classes startup events skipped day month) (IsOf 3 (last_day month))
  unfolding quarterly
  quarterly_form month = given _ _ (IsOf 3 (last_day month)) (refl, refl)

  pub yearly_form : (year : ℕ) → IfSome (yearly item classes startup events skipped day year) (IsOf 4 (last_day (12 * year + 11)))
  unfolding yearly
  yearly_form year = given _ _ (IsOf 4 (last_day (12 * year + 11))) (refl, refl)

  pub planned_form : (month : ℕ) → IfSome (planned item classes startup events skipped day month) (IsOf 5 (end_by (last_day month)))
  unfolding planned
  planned_form month = given _ _ (IsOf 5 (end_by (last_day month))) (refl, refl)

  pub weekly_form : (week : ℕ) → IfSome (weekly item classes startup events skipped day week) (IsOf 6 (week_last week))
  unfolding weekly
  weekly_form week = given _ _ (IsOf 6 (week_last week)) (refl, refl)

  pub drip_form : (before : List Event) (e : Event) (after : List Event) →
      IfSome (drip item classes startup events skipped day before e after) (IsOf 7 (five_after e.key.day))
  unfolding drip
  drip_form before e after = given _ _ (IsOf 7 (five_after e.key.day)) (refl, refl)

  pub release_form : (before : List Event) (e : Event) (after : List Event) →
      IfSome (release item classes startup events skipped day before e after) (IsOf 8 (five_after e.key.day))
  unfolding release
  release_form before e after = given _ _ (IsOf 8 (five_after e.key.day)) (refl, refl)

  pub evidence_form : (before : List Event) (e : Event) (after : List Event) →
      IfSome (evidence item classes startup events skipped day before e after) (IsOf 9 (five_after e.key.day))
  unfolding evidence
  evidence_form before e after = given _ _ (IsOf 9 (five_after e.key.day)) (refl, refl)

-- the ends of consecutive months, years and weeks do not decrease
months_grow : (n : ℕ) → 23_640 ≤ n → last_day n ≤ last_day (n + 1)
months_grow n h = (first_day-le n (n + 1) h (omega arith)).1

years_grow : (n : ℕ) → 1_970 ≤ n → last_day (12 * n + 11) ≤ last_day (12 * (n + 1) + 11)
years_grow n h = (first_day-le (12 * n + 11) (12 * (n + 1) + 11) (omega (arith, h)) (omega arith)).1

ends_grow : (n : ℕ) → 23_640 ≤ n → end_by (last_day n) ≤ end_by (last_day (n + 1))
ends_grow n h = omega (arith, months_grow n h)

weeks_grow : (n : ℕ) → 0 ≤ n → week_last n ≤ week_last (n + 1)
weeks_grow n h = omega arith

pub duties_stand_in_order : DutiesStandInOrder
unfolding duties_of
duties_stand_in_order item classes startup events skipped day begins by_key =
    let in_order : Ascends (λ a b. nat_le a.key.day b.key.day) events =
    ascends_implied (λ a b. is_earlier a.key b.key) (λ a b. nat_le a.key.day b.key.day)
    (λ a b h. le-leb a.key.day b.key.day (earlier_day a.key b.key h)) events by_key in
    let low : 23_640 ≤ month_of item.begin + 1 = omega (arith, month_of-month item.begin begins) in
    let is_day : IsDay (end_by (item.begin + 30)) = (omega (arith, begins), omega arith) in
    let year : 1_970 ≤ month_of (end_by (item.begin + 30)) / 12 = omega (arith, month_of-month (end_by (item.begin + 30)) is_day) in
    (joined 1 _ _ _ (block_one 1 _ _ (first_form item classes startup events skipped day))
    (joined 2 _ _ _
    (block_until 2 23_640 (monthly item classes startup events skipped day) last_day months_grow
    (monthly_form item classes startup events skipped day) _ _ low)
    (joined 3 _ _ _
    (block_until 3 23_640 (quarterly item classes startup events skipped day) last_day months_grow
    (quarterly_form item classes startup events skipped day) _ _ low)
    (joined 4 _ _ _
    (block_until 4 1_970 (yearly item classes startup events skipped day) (λ n. last_day (12 * n + 11)) years_grow
    (yearly_form item classes startup events skipped day) _ _ year)
    (joined 5 _ _ _
    (block_until 5 23_640 (planned item classes startup events skipped day) (λ n. end_by (last_day n)) ends_grow
    (planned_form item classes startup events skipped day) _ _ low)
    (joined 6 _ _ _
    (block_until 6 0 (weekly item classes startup events skipped day) week_last weeks_grow
    (weekly_form item classes startup events skipped day) _ _ (omega arith))
    (joined 7 _ _ _
    (block_events 7 (drip item classes startup events skipped day)
    (drip_form item classes startup events skipped day) [] events 0 in_order (any_day events))
    (joined 8 _ _ _
    (block_events 8 (release item classes startup events skipped day)
    (release_form item classes startup events skipped day) [] events 0 in_order (any_day events))
    (last_block 9 _ _
    (block_events 9 (evidence item classes startup events skipped day)
    (evidence_form item classes startup events skipped day) [] events 0 in_order (any_day events))))))))))).0
