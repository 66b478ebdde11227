use Rattle.std.proofs.Common.{◌≡◌, ℕ, ◌+◌, Bool, true, List, find, refl, ◌∙◌}
use Rattle.std.proofs.lemmas.Bool.{false≢true}
use Rattle.list_words.proofs.Narrowing.{list_any_narrowed, find_narrowed, find_agree}
use Rattle.fact_kinds.specs.declared.body.FactBody.{FactBody}
use Rattle.fact_kinds.specs.declared.body.FactBody.TheVariants.{Calibration, Precision, Drift}
use Rattle.fact_kinds.specs.declared.key.Key.{Key}
use Rattle.fact_kinds.specs.Facts.{Entry}
use Rattle.fact_kinds.specs.Named.{tested_instrument, is_numbered}
use Rattle.ldar_law.specs.Fitness.{is_calibration, is_calibration_within, is_passed_precision, is_drift_past, is_calibrated, is_calibrated_within, is_tested}
use Rattle.ldar_law.specs.Fitness.{is_calibrated_before, is_voided_by}
use Rattle.ldar_law.specs.ReadingLaws.{FitnessIsOfInstrument}
use Rattle.ldar_law.specs.Slices.{facts_of_instrument}
use Rattle.ldar_law.proofs.TestLemmas.{both}

-- the fact is one of the instrument
abbrev is_own : ℕ → Entry → Bool
is_own instrument e = is_numbered (tested_instrument e.1.body) instrument

calibration_is_own : (instrument : ℕ) (body : FactBody) → is_calibration instrument body ≡ true → is_numbered (tested_instrument body) instrument ≡ true
calibration_is_own instrument (Calibration of gas) e = e
calibration_is_own instrument _ e = absurd (false≢true e)

calibration_within_is_own : (instrument most : ℕ) (body : FactBody) → is_calibration_within instrument most body ≡ true →
    is_numbered (tested_instrument body) instrument ≡ true
calibration_within_is_own instrument most (Calibration of gas) e = (both e).0
calibration_within_is_own instrument most _ e = absurd (false≢true e)

precision_is_own : (instrument : ℕ) (body : FactBody) → is_passed_precision instrument body ≡ true → is_numbered (tested_instrument body) instrument ≡ true
precision_is_own instrument (Precision of value readings) e = (both e).0
precision_is_own instrument _ e = absurd (false≢true e)

drift_is_own : (instrument limit ppm : ℕ) (body : FactBody) → is_drift_past instrument limit ppm body ≡ true →
    is_numbered (tested_instrument body) instrument ≡ true
drift_is_own instrument limit ppm (Drift of value readings) e =
    (both (both e).0).0
drift_is_own instrument limit ppm _ e = absurd (false≢true e)

module _ (facts : List Entry) (key : Key) (instrument : ℕ) where
  calibrated_same : is_calibrated (facts_of_instrument instrument facts) key instrument ≡ is_calibrated facts key instrument
  calibrated_same = list_any_narrowed _ (is_own instrument)
      (λ e passes. calibration_is_own instrument e.1.body (both (both passes).0).0) facts

  within_same : (most : ℕ) → is_calibrated_within (facts_of_instrument instrument facts) key instrument most ≡ is_calibrated_within facts key instrument most
  within_same most = list_any_narrowed _ (is_own instrument)
      (λ e passes. calibration_within_is_own instrument most e.1.body (both (both passes).0).0) facts

  tested_same : is_tested (facts_of_instrument instrument facts) key instrument ≡ is_tested facts key instrument
  tested_same = list_any_narrowed _ (is_own instrument)
      (λ e passes. precision_is_own instrument e.1.body (both (both passes).0).0) facts

  before_same : (later : Key) →
      is_calibrated_before (facts_of_instrument instrument facts) key instrument later ≡ is_calibrated_before facts key instrument later
  before_same later = list_any_narrowed _ (is_own instrument)
      (λ e passes. calibration_is_own instrument e.1.body (both (both passes).0).0) facts

  -- a fact voids the reading among the instrument's facts exactly if it does among all facts
  voids_same : (limit ppm : ℕ) (e : Entry) →
      is_voided_by (facts_of_instrument instrument facts) key instrument limit ppm e ≡ is_voided_by facts key instrument limit ppm e
  voids_same limit ppm e = rw (before_same e.0) refl

  voiding_is_own : (limit ppm : ℕ) (e : Entry) → is_voided_by facts key instrument limit ppm e ≡ true → is_own instrument e ≡ true
  voiding_is_own limit ppm e passes =
      drift_is_own instrument limit ppm e.1.body (both (both (both (both passes).0).0).0).1

  voided_same : (limit ppm : ℕ) → find (is_voided_by (facts_of_instrument instrument facts) key instrument limit ppm) (facts_of_instrument instrument facts)
      ≡ find (is_voided_by facts key instrument limit ppm) facts
  voided_same limit ppm =
      find_agree _ _ (voids_same limit ppm) (facts_of_instrument instrument facts)
      ∙ find_narrowed (is_voided_by facts key instrument limit ppm) (is_own instrument) (voiding_is_own limit ppm) facts

pub fitness_is_of_instrument : FitnessIsOfInstrument
fitness_is_of_instrument facts limit key instrument ppm =
    rw (
      calibrated_same facts key instrument,
      within_same facts key instrument (limit + 2000),
      tested_same facts key instrument,
      voided_same facts key instrument limit ppm,
    ) refl
