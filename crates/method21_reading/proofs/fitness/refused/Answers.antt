use Rattle.std.proofs.Common.{◌≡◌, ◌+◌, true, false, sym}
use Rattle.ldar_law.specs.declared.numbers.TheConstants.{GAS_MARGIN}
use Rattle.method21_reading.proofs.FitnessLemmas.{refusal_within}
use Rattle.method21_reading.proofs.fitness.refused.Goals as goal

pub returns-then-not-is_tested : goal.returns-then-not-is_tested
returns-then-not-is_tested c =
    let a = c.args in
    let most : c.from.result + c.from-2.result ≡ a.limit + GAS_MARGIN = cc in
    record {
      value = refusal_within a.calibrations.now a.tests.now a.limit a.key.now a.instrument false
          (rw most at (sym c.if-not-is_calibrated_within.ensures.value)) c.if-not-is_tested.ensures.value;
    }

pub returns : goal.returns
returns c =
    let a = c.args in
    let most : c.from.result + c.from-2.result ≡ a.limit + GAS_MARGIN = cc in
    record {
      value = refusal_within a.calibrations.now a.tests.now a.limit a.key.now a.instrument true
          (rw most at (sym c.if-not-is_calibrated_within.ensures.value)) c.if-not-is_tested.ensures.value;
    }
