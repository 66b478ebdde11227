-- The first failed drift assessment after a reading by which it may be a leak decides whether one voids it.
use Rattle.std.proofs.Common.{◌≡◌, ℕ, ◌+◌, ◌<◌, ◌≤◌, Bool, true, false, not, ◌&&◌, nat_eq, nat_lt, nat_le, Option, Some, None, List, length, find}
use Rattle.std.proofs.Common.{get_or, drop, option_map, refl, sym, ap, ◌∙◌, inl, inr, arith}
use Rattle.std.specs.List.{AllWithin}
use Rattle.std.specs.List.Sorted.{IsPartitionPoint}
use Rattle.std.specs.Option.{option_map_or}
use Rattle.std.proofs.lemmas.Bool.{cases_Bool, false≢true, eq-eqb, ne_eqb, le-leb, lt-leb, lt-ltb, and_from}
use Rattle.std.proofs.lemmas.Bool.Decides.{nat_tests}
use Rattle.list_words.specs.Order.{Ascends}
use Rattle.fact_kinds.specs.declared.body.FactBody.TheVariants.{Retire}
use Rattle.fact_kinds.specs.declared.key.Key.{Key}
use Rattle.fact_kinds.specs.Facts.{Entry, is_earlier, goes_first}
use Rattle.fact_kinds.proofs.Cuts.{earlier_day}
use Rattle.fact_kinds.proofs.KeyOrder.{strict_earlier}
use Rattle.ldar_law.specs.Fitness.{is_calibration, is_calibrated_before, is_drift_past, is_voided_by, unless_voided}
use Rattle.ldar_law.specs.declared.fitness.Fitness.TheVariants.{Voided}
use Rattle.ldar_law.proofs.TestLemmas.{both, list_any_implied}
use Rattle.method21_reading.specs.Leaps.{NonePast}
use Rattle.method21_reading.specs.Readings.{is_before, is_past_after, IsFirstPast}
use Rattle.method21_reading.proofs.FrontLemmas.{stands_in_front, ascends_drop}
use Rattle.method21_reading.proofs.LeapLemmas.{joined_within}
use Rattle.method21_reading.proofs.NearLemmas.{up_to_in_front}
use Rattle.method21_reading.proofs.PlaceLemmas.{any_behind, find_none, find_at, first_decides, fails_left, fails_right, fails_where}

-- an arbitrary entry with this key
some_entry : Key → Entry
some_entry key = (key, record { day = 0; minute = 0; body = Retire 0 })

-- ---- the next calibration, after the facts that are earlier than the reading

not_later : (key other : Key) → is_earlier other key ≡ true → is_earlier key other ≡ false
not_later key other before =
    elim (cases_Bool (is_earlier key other)) [
      | inl t ↦
          absurd (false≢true (sym ((strict_earlier (λ k. k)).irreflexive key) ∙ (strict_earlier (λ k. k)).transitive key other key t before))
      | inr f ↦ f
    ]

before_found : (found : Option Entry) (later : Key) →
    option_map_or (λ e. is_earlier e.0 later) found false ≡ is_before (option_map (λ e. e.0) found) later
before_found None later = refl
before_found (Some e) later = refl

pub next_behind : (facts : List Entry) (count : ℕ) (key : Key) (instrument : ℕ) (later : Key) → Ascends goes_first facts → count ≤ length facts →
    AllWithin (λ e. is_earlier e.0 key ≡ true) facts 0 count →
    is_calibrated_before facts key instrument later
    ≡ is_before (option_map (λ e. e.0) (find (λ e. is_calibration instrument e.1.body && is_earlier key e.0) (drop count facts))) later
next_behind facts count key instrument later up within earlier =
    let next : Entry → Bool = λ e. is_calibration instrument e.1.body && is_earlier key e.0 in
    any_behind (λ e. next e && is_earlier e.0 later) facts count within
    (λ k d a b.
    let e = get_or facts k d in
    fails_left (next e) (is_earlier e.0 later) (fails_right (is_calibration instrument e.1.body) (is_earlier key e.0) (not_later key e.0 (earlier k d a b))))
    ∙ first_decides goes_first next (λ e. is_earlier e.0 later)
    (λ x y before t. (strict_earlier (λ k. k)).transitive x.0 y.0 later before t) (drop count facts) (ascends_drop goes_first count facts up)
    ∙ before_found (find next (drop count facts)) later

-- ---- the first such assessment

module _ (facts : List Entry) (key : Key) (instrument limit ppm from place : ℕ) (after : from ≤ place) (within : place ≤ length facts)
    (parts : IsPartitionPoint (λ e. is_earlier key e.0 ≡ false) (λ e. is_earlier key e.0 ≡ true) facts from)
    (none : NonePast instrument limit ppm facts from place) where
  pub none_to_place : AllWithin (λ e. is_past_after key instrument limit ppm e ≡ false) facts 0 place
  none_to_place =
      joined_within (λ e. is_past_after key instrument limit ppm e ≡ false) facts 0 from place
      (λ k d a b. fails_right (is_drift_past instrument limit ppm (get_or facts k d).1.body) (is_earlier key (get_or facts k d).0) (parts.0 k d a b))
      (λ k d a b. fails_left (is_drift_past instrument limit ppm (get_or facts k d).1.body) (is_earlier key (get_or facts k d).0) (none k d a b))

  pub first_at : (drift : Key) → place < length facts → ((d : Entry) → (get_or facts place d).0 ≡ drift) →
      AllWithin (λ e. is_drift_past instrument limit ppm e.1.body ≡ true) facts place (place + 1) → IsFirstPast facts key instrument limit ppm drift
  first_at drift short is past = record {
    place = place;
    within = short;
    stands = is;
    passes = λ d. and_from _ _ (past place d (omega arith) (omega arith)) (parts.1 place d after short);
    none_before = none_to_place;
  }

later_day : (x day : ℕ) → day ≤ x → nat_eq x day ≡ false → day < x
later_day x day le differ = grind (arith, nat_tests)

-- ---- whether an assessment voids the reading

past_of : (a b c d e : Bool) → ((((a && b) && c) && d) && e) ≡ true → (b && d) ≡ true
past_of true true true true e t = refl
past_of true true true false e t = absurd (false≢true t)
past_of true true false d e t = absurd (false≢true t)
past_of true false c d e t = absurd (false≢true t)
past_of false b c d e t = absurd (false≢true t)

day_of : (a b c d e : Bool) → ((((a && b) && c) && d) && e) ≡ true → c ≡ true
day_of true true true d e t = refl
day_of true true false d e t = absurd (false≢true t)
day_of true false c d e t = absurd (false≢true t)
day_of false b c d e t = absurd (false≢true t)

module _ (calibrations facts : List Entry) (key : Key) (instrument limit ppm : ℕ) where
  abbrev voids : Entry → Bool
  voids e = is_voided_by calibrations key instrument limit ppm e

  voids_past : (e : Entry) → voids e ≡ true → is_past_after key instrument limit ppm e ≡ true
  voids_past e t =
      past_of (nat_lt ppm limit) (is_drift_past instrument limit ppm e.1.body) (nat_eq e.0.day key.day) (is_earlier key e.0)
      (not (is_calibrated_before calibrations key instrument e.0)) t

  voids_of_day : (e : Entry) → voids e ≡ true → nat_eq e.0.day key.day ≡ true
  voids_of_day e t =
      day_of (nat_lt ppm limit) (is_drift_past instrument limit ppm e.1.body) (nat_eq e.0.day key.day) (is_earlier key e.0)
      (not (is_calibrated_before calibrations key instrument e.0)) t

  not_past : (low high : ℕ) → AllWithin (λ e. is_past_after key instrument limit ppm e ≡ false) facts low high → AllWithin (λ e. voids e ≡ false) facts low high
  not_past low high none k d a b =
      fails_where (voids (get_or facts k d)) (is_past_after key instrument limit ppm (get_or facts k d)) (voids_past (get_or facts k d)) (none k d a b)

  -- there is no such assessment
  pub none_voids : AllWithin (λ e. is_past_after key instrument limit ppm e ≡ false) facts 0 (length facts) → find voids facts ≡ None
  none_voids none = find_none voids facts (not_past 0 (length facts) none)

  module _ (up : Ascends goes_first facts) (drift : Key) (first : IsFirstPast facts key instrument limit ppm drift) where
    -- a key before the first one is before each later one
    before_later : (other : Key) → is_earlier other drift ≡ true → AllWithin (λ e. is_earlier other e.0 ≡ true) facts first.place (length facts)
    before_later other before k d a b =
        elim (cases_Bool (is_earlier other (get_or facts k d).0)) [
          | inl t ↦ t
          | inr f ↦
              let there : not (is_earlier other (get_or facts first.place d).0) ≡ true =
              stands_in_front goes_first (λ e. not (is_earlier other e.0))
              (λ x y earlier t. elim (cases_Bool (is_earlier other x.0)) [
                | inl s ↦ absurd (false≢true (sym (ap not ((strict_earlier (λ k. k)).transitive other x.0 y.0 s earlier)) ∙ t))
                | inr g ↦ rw g refl
              ]) facts up first.place k d a b (rw f refl) in
              absurd (false≢true (sym (ap not (ap (is_earlier other) (first.stands d) ∙ before)) ∙ there))
        ]

    after_key : is_earlier key drift ≡ true
    after_key = ap (is_earlier key) (sym (first.stands (some_entry key))) ∙ (both (first.passes (some_entry key))).1

    none_from_first : AllWithin (λ e. voids e ≡ false) facts first.place (length facts) → find voids facts ≡ None
    none_from_first later =
        find_none voids facts
        (joined_within (λ e. voids e ≡ false) facts 0 first.place (length facts) (not_past 0 first.place first.none_before) later)

    -- the first one is of another day
    pub none_of_day : nat_eq drift.day key.day ≡ false → find voids facts ≡ None
    none_of_day differ =
        none_from_first (λ k d a b.
        let e = get_or facts k d in
        let past : nat_le drift.day key.day ≡ false = lt-leb drift.day key.day (later_day drift.day key.day (earlier_day key drift after_key) differ) in
        let not_early : nat_le e.0.day key.day ≡ false = elim (cases_Bool (nat_le e.0.day key.day)) [
          | inl t ↦
              absurd (false≢true (sym past ∙ ap (λ x. nat_le x.day key.day) (sym (first.stands d)) ∙ up_to_in_front key.day facts up first.place k d a b t))
          | inr f ↦ f
        ] in
        fails_where (voids e) (nat_eq e.0.day key.day) (voids_of_day e)
        (ne_eqb e.0.day key.day (λ same. absurd (false≢true (sym not_early ∙ le-leb e.0.day key.day (omega (arith, same)))))))

    -- a calibration is between the reading and the first one
    pub none_uncalibrated : is_calibrated_before calibrations key instrument drift ≡ true → find voids facts ≡ None
    none_uncalibrated between =
        none_from_first (λ k d a b.
        let e = get_or facts k d in
        let still : is_calibrated_before calibrations key instrument e.0 ≡ true =
        list_any_implied (λ c. is_calibration instrument c.1.body && is_earlier key c.0 && is_earlier c.0 drift)
        (λ c. is_calibration instrument c.1.body && is_earlier key c.0 && is_earlier c.0 e.0)
        (λ c t. and_from _ _ (both t).0 (before_later c.0 (both t).1 k d a b)) calibrations between in
        fails_right (nat_lt ppm limit && is_drift_past instrument limit ppm e.1.body && nat_eq e.0.day key.day && is_earlier key e.0)
        (not (is_calibrated_before calibrations key instrument e.0)) (rw still refl))

    -- a first assessment of the day without a calibration before it voids a reading below the leak definition
    pub voided_by_first : ppm < limit → drift.day ≡ key.day → is_calibrated_before calibrations key instrument drift ≡ false →
        unless_voided (find voids facts) ≡ Voided drift
    voided_by_first below same uncalibrated =
        let d : Entry = some_entry key in
        let e = get_or facts first.place d in
        let is = first.stands d in
        let passes = both (first.passes d) in
        let here : voids e ≡ true =
        and_from _ _
        (and_from _ _ (and_from _ _ (and_from _ _ (lt-ltb ppm limit below) passes.0) (ap (λ x. nat_eq x.day key.day) is ∙ eq-eqb drift.day key.day same)) passes.1)
        (ap (λ x. not (is_calibrated_before calibrations key instrument x)) is ∙ ap not uncalibrated) in
        ap unless_voided (find_at voids facts first.place d first.within here (not_past 0 first.place first.none_before)) ∙ ap Voided is
