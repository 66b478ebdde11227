use Rattle.std.proofs.Common.{rules, ◌≡◌, true, false, nat_eq, get_or, refl, sym, ap, ◌∙◌, subst}
use Rattle.fact_kinds.specs.Facts.{is_earlier}
use Rattle.ldar_law.specs.Fitness.{is_calibrated_before, unless_voided}
use Rattle.method21_reading.proofs.ApartLemmas.{never_voided}
use Rattle.method21_reading.proofs.VoidLemmas.{none_voids, none_of_day, none_uncalibrated, voided_by_first}
use Rattle.method21_reading.proofs.instrument.Instrument.unless_voided.Goals as goal

pub returns-then-limit-ppm : goal.returns-then-limit-ppm
returns-then-limit-ppm c =
    let a = c.args in
    record {
      value = sym (ap unless_voided (never_voided a.self.now.calibrations a.self.now.drifts a.key.now a.limit a.instrument a.ppm c.if-limit-ppm.true));
    }

pub returns-then-ne : goal.returns-then-ne
returns-then-ne c =
    let a = c.args in
    let drift = c.in-Some.drift in
    let differ : nat_eq drift.day a.key.now.day ≡ false = search rules in
    record {
      value = sym (ap unless_voided (none_of_day a.self.now.calibrations a.self.now.drifts a.key.now a.instrument a.limit a.ppm
          c.drift_past.ensures.ordered drift c.in-Some.ensures.first differ));
    }

pub calibration_after-next-requires-clause-earlier : goal.calibration_after-next-requires-clause-earlier
calibration_after-next-requires-clause-earlier c k d low below =
    subst (λ es. is_earlier (get_or es k d).0 c.args.key.now ≡ true) (sym c.calibrations.ensures.value) (c.requires.count.0 k d low below)

pub returns-then-is_before_key : goal.returns-then-is_before_key
returns-then-is_before_key c =
    let a = c.args in
    let drift = c.in-Some.drift in
    let between : is_calibrated_before a.self.now.calibrations a.key.now a.instrument drift ≡ true =
    subst (λ es. is_calibrated_before es a.key.now a.instrument drift ≡ true) c.calibrations.ensures.value
    (c.calibration_after-next.ensures.value drift ∙ sym c.if-is_before_key.ensures.value) in
    record {
      value = sym (ap unless_voided (none_uncalibrated a.self.now.calibrations a.self.now.drifts a.key.now a.instrument a.limit a.ppm
          c.drift_past.ensures.ordered drift c.in-Some.ensures.first between));
    }

pub returns-else-is_before_key : goal.returns-else-is_before_key
returns-else-is_before_key c =
    let a = c.args in
    let drift = c.in-Some.drift in
    let same : drift.day ≡ a.key.now.day = search rules in
    let uncalibrated : is_calibrated_before a.self.now.calibrations a.key.now a.instrument drift ≡ false =
    subst (λ es. is_calibrated_before es a.key.now a.instrument drift ≡ false) c.calibrations.ensures.value
    (c.calibration_after-next.ensures.value drift ∙ sym c.if-is_before_key.ensures.value) in
    record {
      value = sym (voided_by_first a.self.now.calibrations a.self.now.drifts a.key.now a.instrument a.limit a.ppm
          c.drift_past.ensures.ordered drift c.in-Some.ensures.first c.if-limit-ppm.false same uncalibrated);
    }

pub returns-in-None : goal.returns-in-None
returns-in-None c =
    let a = c.args in
    record {
      value = sym (ap unless_voided (none_voids a.self.now.calibrations a.self.now.drifts a.key.now a.instrument a.limit a.ppm
          (c.in-None.ensures.none refl)));
    }
