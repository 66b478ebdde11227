use Rattle.std.proofs.Common.{◌≡◌, ℕ, Bool, true, false, ◌&&◌, ◌||◌, Option, Some, None, List, ◌∷◌, find, refl, sym, ap, ◌∙◌, inl, inr}
use Rattle.std.proofs.lemmas.Bool.{cases_Bool, false≢true}
use Rattle.fact_kinds.specs.declared.key.Key.{Key}
use Rattle.fact_kinds.specs.Facts.{Entry, is_earlier}
use Rattle.fact_kinds.proofs.KeyOrder.{strict_earlier}
use Rattle.ldar_law.specs.Fitness.{is_calibration, is_calibrated_before, is_voided_by}
use Rattle.ldar_law.proofs.WeakOrder.{weak_earlier}
use Rattle.list_words.proofs.Narrowing.{find_agree}
use Rattle.method21_reading.specs.Readings.{is_before, earlier_of, nearer, is_voided_until}

-- a disjunction whose second part implies the first one
or_right_only : (a b : Bool) → (a ≡ true → b ≡ true) → b ≡ (a || b)
or_right_only true b implies = implies refl
or_right_only false b implies = refl

or_left_only : (a b : Bool) → (b ≡ true → a ≡ true) → a ≡ (a || b)
or_left_only true b implies = refl
or_left_only false true implies = implies refl
or_left_only false false implies = refl

-- if one key is not after another, it is before every key that the other one is before
carried : (k n later : Key) → is_earlier k n ≡ false → is_earlier k later ≡ true → is_earlier n later ≡ true
carried k n later not_before before =
    elim (cases_Bool (is_earlier n later)) [
      | inl t ↦ t
      | inr t ↦ absurd (false≢true (sym not_before ∙ (weak_earlier (λ key. key)).carries k later n before t))
    ]

-- the earlier of two keys is before a third one exactly if one of them is
before_either : (next : Option Key) (k later : Key) → is_before (earlier_of next k) later ≡ (is_before next later || is_earlier k later)
before_either None k later = refl
before_either (Some n) k later =
    elim (cases_Bool (is_earlier k n)) [
      | inl t ↦ rw t (or_right_only (is_earlier n later) (is_earlier k later) (λ before. (strict_earlier (λ key. key)).transitive k n later t before))
      | inr t ↦ rw t (or_left_only (is_earlier n later) (is_earlier k later) (carried k n later t))
    ]

or_false : (a : Bool) → a ≡ (a || false)
or_false true = refl
or_false false = refl

or_assoc : (a b c : Bool) → ((a || b) || c) ≡ (a || (b || c))
or_assoc true b c = refl
or_assoc false b c = refl

-- one more fact
nearer_is : (key : Key) (instrument : ℕ) (next : Option Key) (e : Entry) (later : Key) → is_before (nearer key instrument next e) later
    ≡ (is_before next later || (is_calibration instrument e.1.body && is_earlier key e.0 && is_earlier e.0 later))
nearer_is key instrument next e later =
    elim (cases_Bool (is_calibration instrument e.1.body && is_earlier key e.0)) [
      | inl t ↦ rw t (before_either next e.0 later)
      | inr t ↦ rw t (or_false (is_before next later))
    ]

pub nearer_step : (key : Key) (instrument : ℕ) (next : Option Key) (e : Entry) (es : List Entry) (later : Key) →
    (is_before next later || is_calibrated_before (e ∷ es) key instrument later)
    ≡ (is_before (nearer key instrument next e) later || is_calibrated_before es key instrument later)
nearer_step key instrument next e es later =
    sym (or_assoc (is_before next later) (is_calibration instrument e.1.body && is_earlier key e.0 && is_earlier e.0 later)
    (is_calibrated_before es key instrument later))
    ∙ ap (λ b. b || is_calibrated_before es key instrument later) (sym (nearer_is key instrument next e later))

pub nearest_of_all : (next : Option Key) (later : Key) → (is_before next later || false) ≡ is_before next later
nearest_of_all next later = sym (or_false (is_before next later))

-- the next calibration decides whether a calibration is between
pub voided_same : (calibrations drifts : List Entry) (next : Option Key) (key : Key) (instrument limit ppm : ℕ) →
    ((later : Key) → is_calibrated_before calibrations key instrument later ≡ is_before next later) →
    find (is_voided_until next key instrument limit ppm) drifts ≡ find (is_voided_by calibrations key instrument limit ppm) drifts
voided_same calibrations drifts next key instrument limit ppm says =
    find_agree (is_voided_until next key instrument limit ppm) (is_voided_by calibrations key instrument limit ppm) (λ e. rw (says e.0) refl) drifts
