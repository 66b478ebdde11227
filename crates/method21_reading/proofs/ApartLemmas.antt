-- The facts of an instrument, sorted into one list for each kind, judge a reading as all facts do.
use Rattle.std.proofs.Common.{◌≡◌, ℕ, ◌+◌, ◌≤◌, Bool, true, false, not, ◌&&◌, nat_eq, nat_lt}
use Rattle.std.proofs.Common.{nat_le, Option, Some, None, List, [], ◌∷◌, length, take, drop, find}
use Rattle.std.proofs.Common.{filter, get_or, option_map, refl, sym, ap, ◌∙◌, inl, inr, arith}
use Rattle.std.specs.Prelude.{unwrap_or, if◌then◌else◌}
use Rattle.std.specs.List.{list_any}
use Rattle.std.specs.List.Sorted.{IsPartitionPoint}
use Rattle.std.specs.Option.{option_map_or}
use Rattle.std.proofs.lemmas.Bool.{cases_Bool, false≢true, eq-eqb, ne_eqb, eqb-true, leb-true, le-leb, leb-false, le-ltb, ltb-true, ltb-false}
use Rattle.std.proofs.lemmas.List.{get_or-drop, length-drop}
use Rattle.list_words.specs.Order.{Ascends}
use Rattle.list_words.specs.Words.{last_such}
use Rattle.list_words.proofs.Narrowing.{list_any_narrowed, find_narrowed, find_agree}
use Rattle.ldar_days.specs.Calendar.{later_by}
use Rattle.fact_kinds.specs.declared.body.FactBody.{FactBody}
use Rattle.fact_kinds.specs.declared.body.FactBody.TheVariants.{Calibration, Precision, Drift}
use Rattle.fact_kinds.specs.declared.key.Key.{Key}
use Rattle.fact_kinds.specs.Facts.{Entry, is_earlier, goes_first}
use Rattle.fact_kinds.proofs.Cuts.{earlier_day}
use Rattle.ldar_law.specs.Fitness.{is_calibration, is_calibration_within, is_passed_precision, is_drift_past, is_calibrated, is_calibrated_within, is_tested}
use Rattle.ldar_law.specs.Fitness.{is_calibrated_before, is_voided_by, fitness_of, unless_voided}
use Rattle.ldar_law.specs.declared.fitness.Fitness.{Fitness}
use Rattle.ldar_law.specs.declared.fitness.Fitness.TheVariants.{NoCalibration, GasTooHigh, NoPrecision}
use Rattle.ldar_law.specs.declared.numbers.TheConstants.{GAS_MARGIN}
use Rattle.ldar_law.proofs.TestLemmas.{both}
use Rattle.method21_reading.specs.Instruments.{is_calibrating, is_passed_test, is_failed_drift, Apart, AreThoseOf, is_of_day, fitness_apart, refusal_apart}
use Rattle.method21_reading.proofs.FrontLemmas.{filter_front, filter_behind, last_such_both, latest_decides}
use Rattle.method21_reading.proofs.LaterLemmas.{later_rises}

-- ---- facts of an instrument, by kind

calibrates : (instrument : ℕ) (body : FactBody) → is_calibration instrument body ≡ true → is_calibrating body ≡ true
calibrates instrument (Calibration of gas) e = refl
calibrates instrument _ e = absurd (false≢true e)

calibrates_within : (instrument most : ℕ) (body : FactBody) → is_calibration_within instrument most body ≡ true → is_calibrating body ≡ true
calibrates_within instrument most (Calibration of gas) e = refl
calibrates_within instrument most _ e = absurd (false≢true e)

passes : (instrument : ℕ) (body : FactBody) → is_passed_precision instrument body ≡ true → is_passed_test body ≡ true
passes instrument (Precision of value readings) e = (both e).1
passes instrument _ e = absurd (false≢true e)

fails : (instrument limit ppm : ℕ) (body : FactBody) → is_drift_past instrument limit ppm body ≡ true → is_failed_drift body ≡ true
fails instrument limit ppm (Drift of value readings) e = (both (both e).0).1
fails instrument limit ppm _ e = absurd (false≢true e)

-- ---- lists in place of all facts

module _ (facts calibrations tests drifts : List Entry) (key : Key) where
  -- a test that passes only calibrations of the day has the same result on the list of calibrations as on all facts
  abbrev StandForDay : Type 0
  StandForDay =
      (p : Entry → Bool) → ((e : Entry) → p e ≡ true → is_of_day key.day e ≡ true) → ((e : Entry) → p e ≡ true → is_calibrating e.1.body ≡ true)
      → list_any p calibrations ≡ list_any p facts

  -- the list of passed precision tests has the same result as all facts
  abbrev StandForTests : Type 0
  StandForTests = (p : Entry → Bool) → ((e : Entry) → p e ≡ true → is_passed_test e.1.body ≡ true) → list_any p tests ≡ list_any p facts

  -- a test that passes only failed drift assessments of the day finds the same one in their list as in all facts
  abbrev StandForDrifts : Type 0
  StandForDrifts =
      (p : Entry → Bool) → ((e : Entry) → p e ≡ true → is_of_day key.day e ≡ true) → ((e : Entry) → p e ≡ true → is_failed_drift e.1.body ≡ true)
      → find p drifts ≡ find p facts

  module _ (of_day : StandForDay) (of_tests : StandForTests) (of_drifts : StandForDrifts) where
    calibrated_same : (instrument : ℕ) → is_calibrated calibrations key instrument ≡ is_calibrated facts key instrument
    calibrated_same instrument = of_day _ (λ e t. (both (both t).0).1) (λ e t. calibrates instrument e.1.body (both (both t).0).0)

    within_same : (instrument most : ℕ) → is_calibrated_within calibrations key instrument most ≡ is_calibrated_within facts key instrument most
    within_same instrument most = of_day _ (λ e t. (both (both t).0).1) (λ e t. calibrates_within instrument most e.1.body (both (both t).0).0)

    tested_same : (instrument : ℕ) → is_tested tests key instrument ≡ is_tested facts key instrument
    tested_same instrument = of_tests _ (λ e t. passes instrument e.1.body (both (both t).0).0)

    -- a fact between the reading and a fact of its day is of the day
    between : (e : Entry) (later : Key) → later.day ≡ key.day → is_earlier key e.0 ≡ true → is_earlier e.0 later ≡ true → is_of_day key.day e ≡ true
    between e later same after before =
        eq-eqb e.0.day key.day (omega (arith, same, earlier_day key e.0 after, earlier_day e.0 later before))

    before_same : (instrument : ℕ) (later : Key) → later.day ≡ key.day →
        is_calibrated_before calibrations key instrument later ≡ is_calibrated_before facts key instrument later
    before_same instrument later same =
        of_day _ (λ e t. between e later same (both (both t).0).1 (both t).1) (λ e t. calibrates instrument e.1.body (both (both t).0).0)

    voids_same : (limit instrument ppm : ℕ) (e : Entry) →
        is_voided_by calibrations key instrument limit ppm e ≡ is_voided_by facts key instrument limit ppm e
    voids_same limit instrument ppm e =
        elim (cases_Bool (nat_lt ppm limit && is_drift_past instrument limit ppm e.1.body && nat_eq e.0.day key.day && is_earlier key e.0)) [
          | inl t ↦ ap (λ b. (nat_lt ppm limit && is_drift_past instrument limit ppm e.1.body && nat_eq e.0.day key.day && is_earlier key e.0) && not b)
              (before_same instrument e.0 (eqb-true e.0.day key.day (both (both t).0).1))
          | inr f ↦ rw f refl
        ]

    voided_same : (limit instrument ppm : ℕ) →
        find (is_voided_by calibrations key instrument limit ppm) drifts ≡ find (is_voided_by facts key instrument limit ppm) facts
    voided_same limit instrument ppm =
        find_agree (is_voided_by calibrations key instrument limit ppm) (is_voided_by facts key instrument limit ppm) (voids_same limit instrument ppm) drifts
        ∙ of_drifts _ (λ e t. (both (both (both t).0).0).1) (λ e t. fails instrument limit ppm e.1.body (both (both (both (both t).0).0).0).1)

    apart_is_whole : (limit instrument ppm : ℕ) → fitness_apart calibrations tests drifts limit key instrument ppm ≡ fitness_of facts limit key instrument ppm
    apart_is_whole limit instrument ppm =
        rw (calibrated_same instrument, within_same instrument (limit + GAS_MARGIN), tested_same instrument, voided_same limit instrument ppm) refl

-- ---- reasons one after the other

-- the first of three tests that fails decides the result, and `left` is the result if none fails
first_answer : (a b c : Bool) (left : Fitness) →
    unwrap_or (if not a then Some NoCalibration else if not b then Some GasTooHigh else if not c then Some NoPrecision else None) left
    ≡ (if not a then NoCalibration else if not b then GasTooHigh else if not c then NoPrecision else left)
first_answer false b c left = refl
first_answer true false c left = refl
first_answer true true false left = refl
first_answer true true true left = refl

-- the result is the reason against the reading if there is one, and otherwise that of the drift assessments
refused_or_voided : (calibrations tests drifts : List Entry) (key : Key) (limit instrument ppm : ℕ) →
    unwrap_or (refusal_apart calibrations tests limit key instrument) (unless_voided (find (is_voided_by calibrations key instrument limit ppm) drifts))
    ≡ fitness_apart calibrations tests drifts limit key instrument ppm
refused_or_voided calibrations tests drifts key limit instrument ppm =
    first_answer (is_calibrated calibrations key instrument) (is_calibrated_within calibrations key instrument (limit + GAS_MARGIN))
    (is_tested tests key instrument) (unless_voided (find (is_voided_by calibrations key instrument limit ppm) drifts))

-- a test that never passes finds nothing
finds_none : (p : Entry → Bool) → ((e : Entry) → p e ≡ false) → (es : List Entry) → find p es ≡ None
finds_none p never [] = refl
finds_none p never (e ∷ es) = rw (never e) (finds_none p never es)

-- no drift voids a reading that is not below the leak definition
pub never_voided : (calibrations drifts : List Entry) (key : Key) (limit instrument ppm : ℕ) → limit ≤ ppm →
    find (is_voided_by calibrations key instrument limit ppm) drifts ≡ None
never_voided calibrations drifts key limit instrument ppm reached =
    let not_below : nat_lt ppm limit ≡ false = le-ltb ppm limit reached in
    finds_none (is_voided_by calibrations key instrument limit ppm) (λ e. rw not_below refl) drifts

-- ---- readings judged by the facts of the day and by the lists

module _ (facts : List Entry) (key : Key) where
  -- the facts of the day, with all facts for the precision tests, judge as all facts do
  pub day_judges : (today : List Entry) (limit instrument ppm : ℕ) → today ≡ filter (is_of_day key.day) facts →
      fitness_apart today facts today limit key instrument ppm ≡ fitness_of facts limit key instrument ppm
  day_judges today limit instrument ppm is =
      rw is
      (apart_is_whole facts (filter (is_of_day key.day) facts) facts (filter (is_of_day key.day) facts) key
      (λ p day sort. list_any_narrowed p (is_of_day key.day) day facts) (λ p sort. refl) (λ p day sort. find_narrowed p (is_of_day key.day) day facts)
      limit instrument ppm)

  -- the separate lists judge as all facts do
  pub sorts_judge : (apart : Apart) (limit instrument ppm : ℕ) → AreThoseOf facts apart →
      unwrap_or (refusal_apart apart.calibrations apart.tests limit key instrument)
      (unless_voided (find (is_voided_by apart.calibrations key instrument limit ppm) apart.drifts))
      ≡ fitness_of facts limit key instrument ppm
  sorts_judge apart limit instrument ppm those =
      refused_or_voided apart.calibrations apart.tests apart.drifts key limit instrument ppm
      ∙ apart_is_whole facts apart.calibrations apart.tests apart.drifts key
      (λ p day sort. ap (list_any p) those.calibrations ∙ list_any_narrowed p (λ e. is_calibrating e.1.body) sort facts)
      (λ p sort. ap (list_any p) those.tests ∙ list_any_narrowed p (λ e. is_passed_test e.1.body) sort facts)
      (λ p day sort. ap (find p) those.drifts ∙ find_narrowed p (λ e. is_failed_drift e.1.body) sort facts)
      limit instrument ppm

-- ---- the last precision test

-- a test of a mapped option
map_or_map : {X Y : Type 0} (f : Y → Bool) (g : X → Y) (o : Option X) → option_map_or f (option_map g o) false ≡ option_map_or (λ x. f (g x)) o false
map_or_map f g None = refl
map_or_map f g (Some x) = refl

-- the last precision test before the reading that passed decides
pub tested_by_last : (facts : List Entry) (key : Key) (instrument count : ℕ) → Ascends goes_first facts → count ≤ length facts →
    IsPartitionPoint (λ e. is_earlier e.0 key ≡ true) (λ e. is_earlier e.0 key ≡ false) facts count →
    option_map_or (λ tested. nat_le key.day (later_by 3 tested))
    (option_map (λ e. e.0.day) (last_such (λ e. is_passed_precision instrument e.1.body) (take count facts))) false
    ≡ is_tested facts key instrument
tested_by_last facts key instrument count up within parts =
    let passed : Entry → Bool = λ e. is_passed_precision instrument e.1.body in
    let earlier : Entry → Bool = λ e. is_earlier e.0 key in
    let recent : Entry → Bool = λ e. nat_le key.day (later_by 3 e.0.day) in
    let front : filter earlier facts ≡ take count facts = filter_front earlier facts count within parts.0 parts.1 in
    map_or_map (λ tested. nat_le key.day (later_by 3 tested)) (λ e. e.0.day) (last_such passed (take count facts))
    ∙ sym (latest_decides goes_first (λ e. passed e && earlier e) recent
    (λ x y before t. le-leb key.day (later_by 3 y.0.day) (omega
    (arith, leb-true key.day (later_by 3 x.0.day) t, later_rises 3 x.0.day y.0.day (earlier_day x.0 y.0 before)))) facts up
    ∙ ap (λ o. option_map_or recent o false) (last_such_both passed earlier facts ∙ ap (last_such passed) front))

-- ---- the facts of a day

-- the facts of a day are after the earlier ones and before the later ones
pub day_part : (facts : List Entry) (day from count : ℕ) → from ≤ length facts → count ≤ length (drop from facts) →
    IsPartitionPoint (λ e. nat_lt e.0.day day ≡ true) (λ e. nat_lt e.0.day day ≡ false) facts from →
    IsPartitionPoint (λ e. nat_le e.0.day day ≡ true) (λ e. nat_le e.0.day day ≡ false) (drop from facts) count →
    take count (drop from facts) ≡ filter (is_of_day day) facts
day_part facts day from count early_within within early here =
    sym (filter_behind (is_of_day day) facts from early_within
    (λ k d low l. ne_eqb (get_or facts k d).0.day day (λ same. absurd (omega (arith, same, ltb-true (get_or facts k d).0.day day (early.0 k d low l)))))
    ∙ filter_front (is_of_day day) (drop from facts) count within
    (λ k d low l.
    let at = get_or-drop from facts k d in
    let no_earlier : nat_lt (get_or (drop from facts) k d).0.day day ≡ false = rw at (early.1 (from + k) d (omega arith)
    (omega (arith, l, within, length-drop from facts))) in
    eq-eqb (get_or (drop from facts) k d).0.day day (omega
    (arith, leb-true (get_or (drop from facts) k d).0.day day (here.0 k d low l), ltb-false (get_or (drop from facts) k d).0.day day no_earlier)))
    (λ k d low l.
    ne_eqb (get_or (drop from facts) k d).0.day day (λ same. absurd (omega
    (arith, same, leb-false (get_or (drop from facts) k d).0.day day (here.1 k d low l))))))
