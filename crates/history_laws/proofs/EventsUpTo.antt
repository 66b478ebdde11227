use Rattle.std.proofs.Common.{◌≡◌, ℕ, ◌+◌, ◌≤◌, Bool, true, false, ◌&&◌, not, nat_eq, nat_le, Option, Some, None, List, filter}
use Rattle.std.proofs.Common.{refl, ap, ◌∙◌, arith}
use Rattle.std.specs.Prelude.{find, option_map}
use Rattle.std.specs.List.{filter_map}
use Rattle.std.proofs.lemmas.Bool.{leb-true, le-leb}
use Rattle.std.proofs.lemmas.Bool.Decides.{nat_tests}
use Rattle.list_words.specs.Order.{Ascends}
use Rattle.list_words.proofs.CutLemmas.{front_is_cut}
use Rattle.list_words.proofs.Narrowing.{list_any_narrowed, find_narrowed, find_agree}
use Rattle.fact_kinds.specs.declared.body.FactBody.{FactBody}
use Rattle.fact_kinds.specs.declared.body.FactBody.TheVariants.{Reading, Visual, Indication}
use Rattle.fact_kinds.specs.declared.body.Sort.TheVariants.{Sensor as SensorSort, Evidence as EvidenceSort}
use Rattle.fact_kinds.specs.declared.class.Class.{Class}
use Rattle.fact_kinds.specs.declared.key.Key.{Key}
use Rattle.fact_kinds.specs.Facts.{Entry, is_earlier}
use Rattle.fact_kinds.specs.Named.{component_of, is_numbered}
use Rattle.fact_kinds.proofs.Cuts.{earlier_day}
use Rattle.ldar_law.specs.declared.equipment.Equipment.{Equipment}
use Rattle.ldar_law.specs.declared.event.Event.{Event}
use Rattle.ldar_law.specs.declared.event.Happening.{Happening}
use Rattle.ldar_law.specs.declared.fitness.Fitness.{Fitness}
use Rattle.ldar_law.specs.Equipment.{classes_of, of_unit, stop_entered, stops_of}
use Rattle.ldar_law.specs.Events.{happening, event_of, events_in, fitness_at, fitness_among}
use Rattle.ldar_law.specs.Fitness.{is_calibrated, is_calibrated_within, is_tested, is_calibrated_before, is_voided_by, fitness_of}
use Rattle.ldar_law.specs.Force.{limit_on}
use Rattle.ldar_law.specs.Limits.{limit_of}
use Rattle.ldar_law.specs.Slices.{facts_of_component}
use Rattle.ldar_law.proofs.EventLemmas.{events_ascend}
use Rattle.ldar_law.proofs.TestLemmas.{both}
use Rattle.ldar_law.proofs.SpansByDayLemmas.{is_first, whole_again}
use Rattle.ldar_law.specs.Units.{known_with}
use Rattle.history_laws.specs.DayLaws.{up_to, item_on, events_to, of_unit_to}
use Rattle.history_laws.specs.DayLaws.{AgreeUpTo, FitnessForgetsLaterDays, EventsUpToADay, EventsByOwnRegister, LimitsAgree, IsCutAt, EventsAreCut}
use Rattle.history_laws.specs.KnownLaws.{KnownUpToADay}
use Rattle.history_laws.proofs.UpTo.{filter_swap, given_alike_where, given_up_to}
use Rattle.history_laws.proofs.RegisterUpTo.{classes_up_to, stop_is, day_within, standing_forgets_later_days}

-- ---- readings

-- two conjunctions that differ only in their last test, which agrees if the others pass
pub last_asked : (a b c d e : Bool) → (b ≡ true → d ≡ e) → (((a && b) && c) && d) ≡ (((a && b) && c) && e)
last_asked true true true d e same = same refl
last_asked true true false d e same = refl
last_asked true false c d e same = refl
last_asked false b c d e same = refl

module _ (t : ℕ) (facts : List Entry) (key : Key) (instrument : ℕ) (within : key.day ≤ t) where
  -- a fact earlier than a key up to the day is up to the day
  earlier_within : (e : Entry) (later : Key) → later.day ≤ t → is_earlier e.0 later ≡ true → nat_le e.0.day t ≡ true
  earlier_within e later fits first = day_within e.0.day later.day t (earlier_day e.0 later first) fits

  -- the same calibration exists
  calibrated_same : is_calibrated (up_to t facts) key instrument ≡ is_calibrated facts key instrument
  calibrated_same = list_any_narrowed _ (λ e. nat_le e.0.day t) (λ e passes. earlier_within e key within (both passes).1) facts

  -- the same calibration with a gas of at most this concentration exists
  within_same : (most : ℕ) → is_calibrated_within (up_to t facts) key instrument most ≡ is_calibrated_within facts key instrument most
  within_same most = list_any_narrowed _ (λ e. nat_le e.0.day t) (λ e passes. earlier_within e key within (both passes).1) facts

  -- the same precision test exists
  tested_same : is_tested (up_to t facts) key instrument ≡ is_tested facts key instrument
  tested_same = list_any_narrowed _ (λ e. nat_le e.0.day t) (λ e passes. earlier_within e key within (both (both passes).0).1) facts

  -- the same calibration exists between the reading and a later fact up to the day
  before_same : (later : Key) → later.day ≤ t → is_calibrated_before (up_to t facts) key instrument later ≡ is_calibrated_before facts key instrument later
  before_same later fits = list_any_narrowed _ (λ e. nat_le e.0.day t) (λ e passes. earlier_within e later fits (both passes).1) facts

  -- a fact of the reading's day is up to the day
  of_the_day : (day : ℕ) → nat_eq day key.day ≡ true → day ≤ t
  of_the_day day same = let is : day ≡ key.day = grind (arith, nat_tests) in omega (arith, is, within)

  -- a fact voids the reading by both lists or by neither
  voids_same : (limit ppm : ℕ) (e : Entry) → is_voided_by (up_to t facts) key instrument limit ppm e ≡ is_voided_by facts key instrument limit ppm e
  voids_same limit ppm e = last_asked _ (nat_eq e.0.day key.day) _ _ _ (λ same. ap not (before_same e.0 (of_the_day e.0.day same)))

  -- the same drift assessment is found
  voided_same : (limit ppm : ℕ)
      → find (is_voided_by (up_to t facts) key instrument limit ppm) (up_to t facts) ≡ find (is_voided_by facts key instrument limit ppm) facts
  voided_same limit ppm =
      find_agree _ _ (voids_same limit ppm) (up_to t facts)
      ∙ find_narrowed (is_voided_by facts key instrument limit ppm) (λ e. nat_le e.0.day t)
      (λ e passes. le-leb e.0.day t (of_the_day e.0.day (both (both (both passes).0).0).1)) facts

pub fitness_forgets_later_days : FitnessForgetsLaterDays
fitness_forgets_later_days t facts limit key instrument ppm within =
    rw (
      calibrated_same t facts key instrument within,
      within_same t facts key instrument within (limit + 2000),
      tested_same t facts key instrument within,
      voided_same t facts key instrument within limit ppm,
    ) refl

-- ---- events

-- an event has the key of its fact
event_keyed : (key : Key) (o : Option Happening) (x : Event) → option_map (λ what. record { key = key; what = what }) o ≡ Some x → x.key ≡ key
event_keyed key None x e = absurd cc
event_keyed key (Some what) x e = let is : Some (record { key = key; what = what }) ≡ Some x = e in cc

module _ (t : ℕ) (item : Equipment) (classes : List (Key × Class)) (limit : ℕ → ℕ) (facts : List Entry) where
  -- a reading up to the day has the same fitness
  fitness_same : (key : Key) (body : FactBody) → key.day ≤ t → fitness_at limit (up_to t facts) key body ≡ fitness_at limit facts key body
  fitness_same key (Reading c instrument operator purpose ppm background) within = fitness_forgets_later_days t facts _ key instrument ppm within
  fitness_same key _ within = refl

  -- the events from the facts up to a day
  pub events_up_to : events_in item classes limit (up_to t facts) ≡ events_to t (events_in item classes limit facts)
  unfolding events_in
  events_up_to =
      let own = facts_of_component item.component facts in
      ap (filter_map (λ e. event_of item classes limit e (fitness_among limit (up_to t facts) e)))
      (filter_swap (λ e. is_numbered (component_of e.1.body) item.component) (λ e. nat_le e.0.day t) facts)
      ∙ given_alike_where _ (λ e. event_of item classes limit e (fitness_among limit facts e)) (λ e. nat_le e.0.day t)
      (λ e within. ap (event_of item classes limit e) (fitness_same e.0 e.1.body (leb-true e.0.day t within))) own
      ∙ given_up_to (λ e. event_of item classes limit e (fitness_among limit facts e)) (λ x. x.key.day)
      (λ e x is. ap (λ key. key.day) (event_keyed e.0 (happening item classes limit e.0.day (fitness_among limit facts e) e.1.body) x is)) t own

pub events_up_to_a_day : EventsUpToADay
events_up_to_a_day t item classes limit facts = events_up_to t item classes limit facts

-- the classes entered up to a day
abbrev pub early : ℕ → List (Key × Class) → List (Key × Class)
early t classes = filter (λ entered. nat_le entered.0.day t) classes

-- events on a day, by the register up to the view day and a leak definition that agrees up to it
module _ (t : ℕ) (item : Equipment) (classes : List (Key × Class)) (limit other : ℕ → ℕ) (agree : AgreeUpTo t other limit) where
  -- a fact up to the day is judged the same by both registers
  happening_same : (day : ℕ) (fitness : Fitness) (body : FactBody) → day ≤ t
      → happening (item_on t item) (early t classes) other day fitness body ≡ happening item classes limit day fitness body
  happening_same day fitness (Reading c instrument operator purpose ppm background) within =
      let stands = standing_forgets_later_days t day item classes within in rw (stands.class, stands.service, agree day within) refl
  happening_same day fitness (Visual c state) within =
      let stands = standing_forgets_later_days t day item classes within in rw (stands.class, stands.service) refl
  happening_same day fitness (Indication c SensorSort present) within =
      let stands = standing_forgets_later_days t day item classes within in rw (stands.class, stands.service) refl
  happening_same day fitness (Indication c EvidenceSort present) within = refl
  happening_same day fitness _ within = refl

  -- a reading up to the day has the same fitness by both leak definitions
  judged_same : (facts : List Entry) (key : Key) (body : FactBody) → key.day ≤ t → fitness_at other facts key body ≡ fitness_at limit facts key body
  judged_same facts key (Reading c instrument operator purpose ppm background) within =
      ap (λ l. fitness_of facts l key instrument ppm) (agree key.day within)
  judged_same facts key _ within = refl

  -- a fact up to the day is the same event by both registers
  event_same : (facts : List Entry) (e : Entry) → e.0.day ≤ t
      → event_of (item_on t item) (early t classes) other e (fitness_among other facts e) ≡ event_of item classes limit e (fitness_among limit facts e)
  event_same facts e within =
      ap (λ what. option_map (λ w. record { key = e.0; what = w }) what)
      (ap (λ fitness. happening (item_on t item) (early t classes) other e.0.day fitness e.1.body) (judged_same facts e.0 e.1.body within)
      ∙ happening_same e.0.day (fitness_among limit facts e) e.1.body within)

  -- the events up to a day, by the register up to it and by the register of all facts
  events_same : (facts : List Entry) → events_in (item_on t item) (early t classes) other (up_to t facts) ≡ events_in item classes limit (up_to t facts)
  unfolding events_in
  events_same facts =
      let q : Entry → Bool = λ e. nat_le e.0.day t in
      let own : Entry → Bool = λ e. is_numbered (component_of e.1.body) item.component in
      let swapped = filter_swap own q facts in
      rw swapped
      (given_alike_where _ (λ e. event_of item classes limit e (fitness_among limit (up_to t facts) e)) q
      (λ e within. event_same (up_to t facts) e (leb-true e.0.day t within)) (filter own facts))

pub events_by_own_register : EventsByOwnRegister
events_by_own_register t item limit other facts agree =
    ap (λ classes. events_in (item_on t item) classes other (up_to t facts)) (classes_up_to t item.component facts)
    ∙ events_same t item (classes_of item.component facts) limit other agree facts
    ∙ events_up_to t item (classes_of item.component facts) limit facts

pub limits_agree : LimitsAgree
limits_agree t item facts day within =
    ap (λ classes. limit_on (item_on t item) classes day) (classes_up_to t item.component facts)
    ∙ ap (limit_of item.kind item.monomer) (standing_forgets_later_days t day item (classes_of item.component facts) within).class

pub known_up_to_a_day : KnownUpToADay
known_up_to_a_day t item facts =
    let stops : stops_of item.unit (up_to t facts) ≡ filter (λ stop. nat_le stop.first t) (stops_of item.unit facts) =
    given_up_to (λ e. stop_entered item.unit e.0.day e.1.body) (λ x. x.first) (λ e x is. stop_is item.unit e.0.day e.1.body x is) t facts in
    let unit : of_unit item.unit (up_to t facts) ≡ of_unit_to t (of_unit item.unit facts) = ap (λ ss. record { stops = ss }) stops in
    let classes = classes_of item.component facts in
    ap (λ events. known_with (item_on t item) (classes_of item.component (up_to t facts)) events (of_unit item.unit (up_to t facts)))
    (events_by_own_register t item (limit_on item classes) (limit_on (item_on t item) (classes_of item.component (up_to t facts))) facts
    (limits_agree t item facts))
    ∙ ap (λ cs. known_with (item_on t item) cs (events_to t (events_in item classes (limit_on item classes) facts)) (of_unit item.unit (up_to t facts)))
    (classes_up_to t item.component facts)
    ∙ ap (known_with (item_on t item) (early t classes) (events_to t (events_in item classes (limit_on item classes) facts))) unit

-- ---- the cut

module _ (t : ℕ) where
  -- the cut of events in key order
  pub cut_of : (xs : List Event) → Ascends is_first xs → IsCutAt t xs
  cut_of xs up = record {
    front = front_is_cut is_first (λ e. nat_le e.key.day t) xs up
        (λ x y first within. day_within x.key.day y.key.day t (earlier_day x.key y.key first) (leb-true y.key.day t within));
    whole = whole_again t xs up;
  }

pub events_are_cut : EventsAreCut
events_are_cut t item classes limit facts up = cut_of t (events_in item classes limit facts) (events_ascend item classes limit facts up)
