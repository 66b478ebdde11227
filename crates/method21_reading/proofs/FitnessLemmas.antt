use Rattle.std.proofs.Common.{◌≡◌, ℕ, ◌+◌, Bool, true, not, ◌&&◌, nat_eq, nat_le, Some, None, List, refl, sym, ap, ◌∙◌}
use Rattle.std.specs.Prelude.{if◌then◌else◌}
use Rattle.std.proofs.lemmas.Bool.{false≢true, and_from}
use Rattle.fact_kinds.specs.declared.body.FactBody.{FactBody}
use Rattle.fact_kinds.specs.declared.body.FactBody.TheVariants.{Reading, Calibration}
use Rattle.fact_kinds.specs.declared.key.Key.{Key}
use Rattle.fact_kinds.specs.Facts.{Entry, is_earlier}
use Rattle.fact_kinds.specs.Named.{reading_instrument}
use Rattle.ldar_law.specs.declared.fitness.Fitness.{Fitness}
use Rattle.ldar_law.specs.declared.fitness.Fitness.TheVariants.{GasTooHigh, NoPrecision}
use Rattle.ldar_law.specs.declared.numbers.TheConstants.{GAS_MARGIN}
use Rattle.ldar_law.specs.Fitness.{is_calibration, is_calibration_within, is_calibrated, is_calibrated_within, is_tested}
use Rattle.ldar_law.specs.Slices.{facts_of_instrument}
use Rattle.ldar_law.proofs.FitnessLemmas.{fitness_is_of_instrument}
use Rattle.ldar_law.proofs.TestLemmas.{both, list_any_implied}
use Rattle.method21_reading.specs.Instruments.{refusal_apart}
use Rattle.method21_reading.specs.Readings.{fitness_by, IsFitnessAmongAll}

number_is : (n m : ℕ) → Some n ≡ Some m → m ≡ n
number_is n m e = cc

own_suffice : (limit : ℕ) (all : List Entry) (key : Key) (body : FactBody) (instrument : ℕ) → reading_instrument body ≡ Some instrument →
    fitness_by limit (facts_of_instrument instrument all) key body ≡ fitness_by limit all key body
own_suffice limit all key (Reading component of operator purpose ppm background) instrument e =
    rw (number_is of instrument e) (fitness_is_of_instrument all limit key of ppm)
own_suffice limit all key _ instrument e = cc

pub fitness_among_all : (limit : ℕ) (facts : List Entry) (key : Key) (body : FactBody) (fitness : Fitness) → fitness ≡ fitness_by limit facts key body →
    IsFitnessAmongAll limit facts key body fitness
fitness_among_all limit facts key body fitness given =
    λ all instrument reads own.
    given ∙ ap (λ es. fitness_by limit es key body) own ∙ own_suffice limit all key body instrument reads

-- a calibration with a gas within the bound is a calibration
pub within_calibrates : (instrument most : ℕ) (body : FactBody) →
    is_calibration_within instrument most body ≡ true → is_calibration instrument body ≡ true
within_calibrates instrument most (Calibration of gas) e = (both e).0
within_calibrates instrument most _ e = absurd (false≢true e)

-- the same for an earlier calibration on the day of the reading
within_calibrates_for : (key : Key) (instrument most : ℕ) (e : Entry) →
    (is_calibration_within instrument most e.1.body && nat_eq e.0.day key.day && is_earlier e.0 key) ≡ true →
    (is_calibration instrument e.1.body && nat_eq e.0.day key.day && is_earlier e.0 key) ≡ true
within_calibrates_for key instrument most e t =
    let parts = both t in
    let on_day = both parts.0 in
    and_from _ _ (and_from _ _ (within_calibrates instrument most e.1.body on_day.0) on_day.1) parts.1

-- if an earlier calibration of the day used a gas within the bound, some earlier calibration of the day exists
within_is_calibrated : (calibrations : List Entry) (key : Key) (instrument most : ℕ) →
    is_calibrated_within calibrations key instrument most ≡ true → is_calibrated calibrations key instrument ≡ true
within_is_calibrated calibrations key instrument most =
    list_any_implied (λ e. is_calibration_within instrument most e.1.body && nat_eq e.0.day key.day && is_earlier e.0 key)
    (λ e. is_calibration instrument e.1.body && nat_eq e.0.day key.day && is_earlier e.0 key) (within_calibrates_for key instrument most) calibrations

-- after such a calibration only the precision tests can speak against the reading
pub refusal_within : (calibrations tests : List Entry) (limit : ℕ) (key : Key) (instrument : ℕ) (tested : Bool) →
    is_calibrated_within calibrations key instrument (limit + GAS_MARGIN) ≡ true → tested ≡ is_tested tests key instrument →
    (if not tested then Some NoPrecision else None) ≡ refusal_apart calibrations tests limit key instrument
refusal_within calibrations tests limit key instrument tested within is =
    rw (within_is_calibrated calibrations key instrument (limit + GAS_MARGIN) within, within, sym is) refl

-- the reason against a reading that has an earlier calibration of the day, if the least gas decides whether one is within the bound
pub refusal_by : (calibrations tests : List Entry) (limit : ℕ) (key : Key) (instrument gas : ℕ) (tested : Bool) →
    is_calibrated calibrations key instrument ≡ true → nat_le gas (limit + GAS_MARGIN) ≡ is_calibrated_within calibrations key instrument (limit + GAS_MARGIN) →
    tested ≡ is_tested tests key instrument →
    (if not (nat_le gas (limit + GAS_MARGIN)) then Some GasTooHigh else if not tested then Some NoPrecision else None)
    ≡ refusal_apart calibrations tests limit key instrument
refusal_by calibrations tests limit key instrument gas tested calibrated within is = rw (calibrated, sym within, sym is) refl
