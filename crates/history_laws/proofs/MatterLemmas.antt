use Rattle.std.proofs.Common.{◌≡◌, ℕ, ◌+◌, true, nat_eq, nat_le, List, find, filter, refl, sym, ap, ◌∙◌, arith}
use Rattle.std.specs.Prelude.{not}
use Rattle.std.proofs.lemmas.Bool.{false≢true, and_from, le-leb}
use Rattle.std.proofs.lemmas.Bool.Decides.{nat_tests}
use Rattle.list_words.proofs.Narrowing.{list_any_narrowed, find_narrowed, find_agree, filter_narrowed}
use Rattle.ldar_days.specs.Calendar.{later_by}
use Rattle.fact_kinds.specs.declared.body.FactBody.{FactBody}
use Rattle.fact_kinds.specs.declared.body.FactBody.TheVariants.{Calibration, Precision, Drift}
use Rattle.fact_kinds.specs.declared.key.Key.{Key}
use Rattle.fact_kinds.specs.Facts.{Entry, is_earlier}
use Rattle.fact_kinds.specs.Named.{tested_instrument, is_numbered}
use Rattle.fact_kinds.proofs.Cuts.{earlier_day}
use Rattle.ldar_law.specs.Fitness.{is_calibration, is_calibration_within, is_passed_precision, is_drift_past}
use Rattle.ldar_law.specs.Fitness.{is_calibrated, is_calibrated_within, is_tested, is_calibrated_before, is_voided_by}
use Rattle.ldar_law.specs.Slices.{facts_of_instrument}
use Rattle.ldar_law.proofs.TestLemmas.{both}
use Rattle.ldar_law.specs.Stirred.{is_of_matter, matters}
use Rattle.history_laws.specs.KnownLaws.{FitnessIsOfWhatMatters, SameTestsMatter}
use Rattle.history_laws.proofs.EventsUpTo.{last_asked}

-- ---- facts that the tests of a reading look for matter to it

-- a calibration of the day
calibration_matters : (instrument day tested : ℕ) (body : FactBody) → is_calibration instrument body ≡ true → nat_eq tested day ≡ true
    → is_of_matter instrument day tested body ≡ true
calibration_matters instrument day tested (Calibration of gas) is on = and_from _ _ is on
calibration_matters instrument day tested _ is on = absurd (false≢true is)

-- a calibration of the day with a gas of at most this concentration
within_matters : (instrument most day tested : ℕ) (body : FactBody) → is_calibration_within instrument most body ≡ true → nat_eq tested day ≡ true
    → is_of_matter instrument day tested body ≡ true
within_matters instrument most day tested (Calibration of gas) is on = and_from _ _ (both is).0 on
within_matters instrument most day tested _ is on = absurd (false≢true is)

-- a drift assessment of the day
drift_matters : (instrument limit ppm day tested : ℕ) (body : FactBody) → is_drift_past instrument limit ppm body ≡ true → nat_eq tested day ≡ true
    → is_of_matter instrument day tested body ≡ true
drift_matters instrument limit ppm day tested (Drift of value readings) is on = and_from _ _ (both (both is).0).0 on
drift_matters instrument limit ppm day tested _ is on = absurd (false≢true is)

-- a precision test of at most three months before
precision_matters : (instrument day tested : ℕ) (body : FactBody) → is_passed_precision instrument body ≡ true → nat_le tested day ≡ true
    → nat_le day (later_by 3 tested) ≡ true → is_of_matter instrument day tested body ≡ true
precision_matters instrument day tested (Precision of value readings) is by_then in_time = and_from _ _ (and_from _ _ (both is).0 by_then) in_time
precision_matters instrument day tested _ is by_then in_time = absurd (false≢true is)

-- ---- a reading by the facts that matter to it

module _ (facts : List Entry) (key : Key) (instrument : ℕ) where
  -- the facts that matter to it
  abbrev of_matter : List Entry
  of_matter = filter (matters instrument key.day) facts

  -- the same calibration exists
  calibrated_same : is_calibrated of_matter key instrument ≡ is_calibrated facts key instrument
  calibrated_same = list_any_narrowed _ (matters instrument key.day)
      (λ e passes. let parts = both (both passes).0 in calibration_matters instrument key.day e.0.day e.1.body parts.0 parts.1) facts

  -- the same calibration with a gas of at most this concentration exists
  within_same : (most : ℕ) → is_calibrated_within of_matter key instrument most ≡ is_calibrated_within facts key instrument most
  within_same most = list_any_narrowed _ (matters instrument key.day)
      (λ e passes. let parts = both (both passes).0 in within_matters instrument most key.day e.0.day e.1.body parts.0 parts.1) facts

  -- the same precision test exists
  tested_same : is_tested of_matter key instrument ≡ is_tested facts key instrument
  tested_same = list_any_narrowed _ (matters instrument key.day)
      (λ e passes. let parts = both (both passes).0 in
      precision_matters instrument key.day e.0.day e.1.body parts.0 (le-leb e.0.day key.day (earlier_day e.0 key parts.1)) (both passes).1) facts

  -- a calibration between the reading and a later fact of its day is of that day
  between_is_of_day : (tested later : Key) → nat_eq later.day key.day ≡ true → is_earlier key tested ≡ true → is_earlier tested later ≡ true
      → nat_eq tested.day key.day ≡ true
  between_is_of_day tested later same first second =
      let low = earlier_day key tested first in
      let high = earlier_day tested later second in
      grind (arith, nat_tests)

  -- the same calibration exists between the reading and a later fact of its day
  before_same : (later : Key) → nat_eq later.day key.day ≡ true
      → is_calibrated_before of_matter key instrument later ≡ is_calibrated_before facts key instrument later
  before_same later same = list_any_narrowed _ (matters instrument key.day)
      (λ e passes. let parts = both (both passes).0 in
      calibration_matters instrument key.day e.0.day e.1.body parts.0 (between_is_of_day e.0 later same parts.1 (both passes).1)) facts

  -- a fact voids the reading by both lists or by neither
  voids_same : (limit ppm : ℕ) (e : Entry) → is_voided_by of_matter key instrument limit ppm e ≡ is_voided_by facts key instrument limit ppm e
  voids_same limit ppm e = last_asked _ (nat_eq e.0.day key.day) _ _ _ (λ same. ap not (before_same e.0 same))

  -- the same drift assessment is found
  voided_same : (limit ppm : ℕ)
      → find (is_voided_by of_matter key instrument limit ppm) of_matter ≡ find (is_voided_by facts key instrument limit ppm) facts
  voided_same limit ppm =
      find_agree _ _ (voids_same limit ppm) of_matter
      ∙ find_narrowed (is_voided_by facts key instrument limit ppm) (matters instrument key.day)
      (λ e passes. let parts = both (both (both passes).0).0 in drift_matters instrument limit ppm key.day e.0.day e.1.body (both parts.0).1 parts.1) facts

pub fitness_is_of_what_matters : FitnessIsOfWhatMatters
fitness_is_of_what_matters facts limit key instrument ppm =
    rw (
      calibrated_same facts key instrument,
      within_same facts key instrument (limit + 2000),
      tested_same facts key instrument,
      voided_same facts key instrument limit ppm,
    ) refl

-- a fact that matters is a test of the instrument
matter_is_own : (instrument day tested : ℕ) (body : FactBody) → is_of_matter instrument day tested body ≡ true
    → is_numbered (tested_instrument body) instrument ≡ true
matter_is_own instrument day tested (Calibration of gas) is = (both is).0
matter_is_own instrument day tested (Drift of value readings) is = (both is).0
matter_is_own instrument day tested (Precision of value readings) is = (both (both is).0).0
matter_is_own instrument day tested _ is = absurd (false≢true is)

-- the facts that matter, among the tests of the instrument
of_own_tests : (facts : List Entry) (instrument day : ℕ)
    → filter (matters instrument day) (facts_of_instrument instrument facts) ≡ filter (matters instrument day) facts
of_own_tests facts instrument day =
    filter_narrowed (matters instrument day) (λ e. is_numbered (tested_instrument e.1.body) instrument)
    (λ e is. matter_is_own instrument day e.0.day e.1.body is) facts

pub same_tests_matter : SameTestsMatter
same_tests_matter facts other instrument day same =
    sym (of_own_tests other instrument day) ∙ ap (filter (matters instrument day)) same ∙ of_own_tests facts instrument day
