-- The least gas kept for the last calibration of an instrument is that of all its calibrations of the day before a place.
use Rattle.std.proofs.Common.{◌≡◌, ℕ, ◌+◌, ◌-◌, ◌<◌, ◌≤◌, min, Bool, true, false, ◌||◌, nat_eq, nat_lt, nat_le, Option, Some, None, List, [], ◌∷◌, ◌++◌}
use Rattle.std.proofs.Common.{length, take, filter, get_or, refl, sym, ap, ◌∙◌, subst, inl, inr, arith}
use Rattle.std.specs.List.{AllWithin, list_any}
use Rattle.std.specs.List.Sorted.{IsPartitionPoint}
use Rattle.std.specs.Prelude.{unwrap_or}
use Rattle.std.specs.Option.{option_map_or}
use Rattle.std.proofs.lemmas.Bool.{cases_lt, false≢true, eq-eqb, ne_eqb, eqb-true, le-leb, lt-leb, lt-ltb, ltb-true, and_from}
use Rattle.std.proofs.lemmas.Bool.Decides.{nat_tests}
use Rattle.std.proofs.lemmas.List.{take_more, length_push, get_or_push, get_or_append_left}
use Rattle.std.proofs.lemmas.List.Folds.{list_any-append}
use Rattle.list_words.specs.Order.{Ascends}
use Rattle.fact_kinds.specs.declared.body.FactBody.{FactBody}
use Rattle.fact_kinds.specs.declared.body.FactBody.TheVariants.{Calibration}
use Rattle.fact_kinds.specs.declared.key.Key.{Key}
use Rattle.fact_kinds.specs.Facts.{Entry, is_earlier, goes_first}
use Rattle.fact_kinds.proofs.Cuts.{earlier_day}
use Rattle.ldar_law.specs.Fitness.{is_calibration, is_calibration_within, is_calibrated, is_calibrated_within}
use Rattle.ldar_law.proofs.TestLemmas.{both}
use Rattle.method21_reading.specs.Gases.{calibrates_on, calibrates_within_on, calibration_in, smaller, IsLeastAt, AreLeast}
use Rattle.method21_reading.proofs.FitnessLemmas.{within_calibrates}
use Rattle.method21_reading.proofs.FrontLemmas.{filter_front}
use Rattle.method21_reading.proofs.NearLemmas.{before_in_front}
use Rattle.method21_reading.proofs.PlaceLemmas.{any_front, any_both, any_in_front, fails_where, and_true}

module _ (facts : List Entry) (count place instrument day : ℕ) (bound : place ≤ count) (within : count ≤ length facts)
    (none : AllWithin (λ e. is_calibration instrument e.1.body ≡ false) facts place count) where
  -- only calibrations of the instrument pass
  abbrev OnlyCalibrations : (Entry → Bool) → Type 0
  OnlyCalibrations p = (e : Entry) → p e ≡ true → is_calibration instrument e.1.body ≡ true

  -- only facts of the day pass
  abbrev OnlyOfDay : (Entry → Bool) → Type 0
  OnlyOfDay p = (e : Entry) → p e ≡ true → nat_eq e.0.day day ≡ true

  to_place : (p : Entry → Bool) → OnlyCalibrations p → list_any p (take count facts) ≡ list_any p (take place facts)
  to_place p only =
      any_front p facts place count bound within
      (λ k d a b. fails_where (p (get_or facts k d)) (is_calibration instrument (get_or facts k d).1.body) (only (get_or facts k d)) (none k d a b))

  -- there is no calibration of the instrument
  pub none_in_front : (p : Entry → Bool) → OnlyCalibrations p → place ≡ 0 → list_any p (take count facts) ≡ false
  none_in_front p only is = to_place p only ∙ ap (λ n. list_any p (take n facts)) is

  -- the last calibration is of an earlier day
  pub none_of_day : (p : Entry → Bool) → OnlyCalibrations p → OnlyOfDay p → Ascends goes_first facts → 0 < place →
      ((d : Entry) → (get_or facts (place - 1) d).0.day < day) → list_any p (take count facts) ≡ false
  none_of_day p only of_day up some earlier =
      to_place p only
      ∙ any_front p facts 0 place (omega arith) (omega (arith, bound, within))
      (λ k d a b.
      let e = get_or facts k d in
      let sooner : nat_lt e.0.day day ≡ true =
      before_in_front day facts up k (place - 1) d (omega (arith, b)) (omega (arith, bound, within, some))
      (lt-ltb (get_or facts (place - 1) d).0.day day (earlier d)) in
      fails_where (p e) (nat_eq e.0.day day) (of_day e)
      (ne_eqb e.0.day day (λ same. absurd (omega (arith, same, ltb-true e.0.day day sooner)))))

  module _ (d : Entry) (some : 0 < place) (last : is_calibration instrument (get_or facts (place - 1) d).1.body ≡ true)
      (here : (get_or facts (place - 1) d).0.day ≡ day) where
    -- the last calibration is of the day
    pub some_of_day : list_any (calibrates_on instrument day) (take count facts) ≡ true
    some_of_day =
        to_place (calibrates_on instrument day) (λ e t. (both t).0)
        ∙ any_in_front (calibrates_on instrument day) facts (place - 1) place d (omega (arith, some)) (omega (arith, bound, within))
        (and_from _ _ last (eq-eqb (get_or facts (place - 1) d).0.day day here))

    -- the gas kept for it is the least of the day
    pub least_of_day : (least : List ℕ) (gas most : ℕ) → AreLeast facts least → place ≤ length least → gas ≡ get_or least (place - 1) gas →
        nat_le gas most ≡ list_any (calibrates_within_on instrument most day) (take count facts)
    least_of_day least gas most sound known is =
        let so : nat_le (get_or least (place - 1) gas) most
        ≡ list_any (calibrates_within_on instrument most (get_or facts (place - 1) d).0.day) (take (place - 1 + 1) facts) =
        sound.each (place - 1) gas (omega (arith, some, known)) instrument most d last in
        let back : place - 1 + 1 ≡ place = omega (arith, some) in
        ap (λ n. nat_le n most) is
        ∙ so
        ∙ ap (λ n. list_any (calibrates_within_on instrument most n) (take (place - 1 + 1) facts)) here
        ∙ ap (λ n. list_any (calibrates_within_on instrument most day) (take n facts)) back
        ∙ sym (to_place (calibrates_within_on instrument most day) (λ e t. within_calibrates instrument most e.1.body (both t).0))

-- a day that is not after another one and not equal to it is before it
pub earlier_than : (x day : ℕ) → nat_le x day ≡ true → nat_eq x day ≡ false → x < day
earlier_than x day le differ = grind (arith, nat_tests)

-- ---- one more calibration

or_last : (a b : Bool) → (a || (b || false)) ≡ (a || b)
or_last true b = refl
or_last false true = refl
or_last false false = refl

smaller_within : (other : Option ℕ) (gas most : ℕ) →
    nat_le (smaller other gas) most ≡ (option_map_or (λ g. nat_le g most) other false || nat_le gas most)
smaller_within None gas most = refl
smaller_within (Some other) gas most =
    elim (cases_lt most other) [
      | inl above ↦ elim (cases_lt most gas) [
        | inl over ↦ rw (lt-leb other most above, lt-leb gas most over) (lt-leb (min other gas) most (omega (arith, above, over)))
        | inr le ↦ rw (lt-leb other most above, le-leb gas most le) (le-leb (min other gas) most (omega (arith, le)))
      ]
      | inr le ↦ rw (le-leb other most le) (le-leb (min other gas) most (omega (arith, le)))
    ]

abbrev two : ℕ → ℕ → Option (ℕ × ℕ)
two a b = Some (a, b)

some_pair : (a b c d : ℕ) → two a b ≡ two c d → (a ≡ c) × (b ≡ d)
some_pair a b c d e = (ap (λ (o : Option (ℕ × ℕ)). (unwrap_or o (0, 0)).0) e, ap (λ (o : Option (ℕ × ℕ)). (unwrap_or o (0, 0)).1) e)

calibration_is : (instrument most other gas : ℕ) (body : FactBody) → calibration_in body ≡ Some (other, gas) → is_calibration instrument body ≡ true →
    (instrument ≡ other) × (is_calibration_within instrument most body ≡ nat_le gas most)
calibration_is instrument most other gas (Calibration of known) is t =
    let same = eqb-true of instrument t in
    let parts = some_pair of known other gas is in
    (omega (arith, same, parts.0), rw (t, parts.1) refl)
calibration_is instrument most other gas _ is t = absurd (false≢true t)

no_calibration : (instrument : ℕ) (body : FactBody) → calibration_in body ≡ None → is_calibration instrument body ≡ false
no_calibration instrument (Calibration of known) is = cc
no_calibration instrument _ is = refl

-- the least gas up to a calibration is the smaller of its own gas and the least one before it
pub least_up_to : (facts : List Entry) (at instrument gas day : ℕ) (other : Option ℕ) → at < length facts →
    ((d : Entry) → calibration_in (get_or facts at d).1.body ≡ Some (instrument, gas)) → ((d : Entry) → (get_or facts at d).0.day ≡ day) →
    ((most : ℕ) → option_map_or (λ g. nat_le g most) other false ≡ list_any (calibrates_within_on instrument most day) (take at facts)) →
    IsLeastAt facts at (smaller other gas)
least_up_to facts at instrument gas day other within is of before =
    λ number most d t.
    let e = get_or facts at d in
    let own = calibration_is number most instrument gas e.1.body (is d) t in
    let here : calibrates_within_on number most e.0.day e ≡ nat_le gas most =
    rw (own.1, eq-eqb e.0.day e.0.day refl) (and_true (nat_le gas most)) in
    smaller_within other gas most
    ∙ ap (λ b. b || nat_le gas most) (before most
    ∙ ap (λ n. list_any (calibrates_within_on n most day) (take at facts)) (sym own.0)
    ∙ ap (λ n. list_any (calibrates_within_on number most n) (take at facts)) (sym (of d)))
    ∙ ap (λ b. list_any (calibrates_within_on number most e.0.day) (take at facts) || b) (sym here)
    ∙ sym (or_last (list_any (calibrates_within_on number most e.0.day) (take at facts)) (calibrates_within_on number most e.0.day e))
    ∙ sym (ap (list_any (calibrates_within_on number most e.0.day)) (take_more facts at d within)
    ∙ list_any-append (calibrates_within_on number most e.0.day) (take at facts) (e ∷ []))

pub least_of_none : (facts : List Entry) (at gas : ℕ) → ((d : Entry) → calibration_in (get_or facts at d).1.body ≡ None) → IsLeastAt facts at gas
least_of_none facts at gas none = λ number most d t. absurd (false≢true (sym (no_calibration number (get_or facts at d).1.body (none d)) ∙ t))

-- one more least gas
pub least_more : (facts : List Entry) (least : List ℕ) (gas : ℕ) → length least < length facts → AreLeast facts least → IsLeastAt facts (length least) gas →
    AreLeast facts (least ++ gas ∷ [])
least_more facts least gas short sound here = record {
  within = omega (arith, short, length_push least gas);
  each = λ at d below. elim (cases_lt at (length least)) [
    | inl before ↦ subst (IsLeastAt facts at) (sym (get_or_append_left least (gas ∷ []) d at before)) (sound.each at d before)
    | inr le ↦
        let same : length least ≡ at = omega (arith, le, below, length_push least gas) in
        subst (IsLeastAt facts at) (sym (get_or_push least gas d at same)) (subst (λ n. IsLeastAt facts n gas) same here)
  ];
}

-- ---- the calibrations before a reading

module _ (facts : List Entry) (key : Key) (count : ℕ) (within : count ≤ length facts)
    (parts : IsPartitionPoint (λ e. is_earlier e.0 key ≡ true) (λ e. is_earlier e.0 key ≡ false) facts count) where
  front : filter (λ e. is_earlier e.0 key) facts ≡ take count facts
  front = filter_front (λ e. is_earlier e.0 key) facts count within parts.0 parts.1

  pub calibrated_in_front : (instrument : ℕ) → is_calibrated facts key instrument ≡ list_any (calibrates_on instrument key.day) (take count facts)
  calibrated_in_front instrument = any_both (calibrates_on instrument key.day) (λ e. is_earlier e.0 key) facts ∙ ap (list_any (calibrates_on instrument key.day)) front

  pub within_in_front : (instrument most : ℕ) →
      is_calibrated_within facts key instrument most ≡ list_any (calibrates_within_on instrument most key.day) (take count facts)
  within_in_front instrument most =
      any_both (calibrates_within_on instrument most key.day) (λ e. is_earlier e.0 key) facts
      ∙ ap (list_any (calibrates_within_on instrument most key.day)) front

  pub days_in_front : AllWithin (λ e. nat_le e.0.day key.day ≡ true) facts 0 count
  days_in_front = λ k d a b. le-leb (get_or facts k d).0.day key.day (earlier_day (get_or facts k d).0 key (parts.0 k d a b))
