use Rattle.std.proofs.Common.{◌≡◌, Some, is_some, sym, ap, ◌∙◌, arith}
use Rattle.ldar_days.specs.Calendar.{month_of}
use Rattle.ldar_days.specs.Quarters.{quarter_of}
use Rattle.skip_periods.proofs.CountingLemmas.{judged_on, judged_earlier, judged_by_quarter}
use Rattle.skip_periods.proofs.counting.judged_from.Goals as goal

pub returns-in-Some : goal.returns-in-Some
returns-in-Some c =
    let a = c.args in
    let lies : quarter_of a.startup (month_of a.entered) ≡ Some c.in-Some.quarter =
    ap (quarter_of a.startup) (sym c.month.ensures.value) ∙ sym c.quarter_of.ensures.value ∙ c.in-Some.is in
    let is = judged_by_quarter a.startup a.day a.entered (omega arith, omega arith) c.requires.startup (omega arith, omega arith) c.in-Some.quarter lies in
    record {
      before = λ quarter early.
          judged_earlier a.startup a.day a.entered (omega arith, omega arith) c.requires.startup (omega arith, omega arith) quarter
          (omega (arith, early, is));
      value = λ quarter number late.
          judged_on a.startup a.day a.entered (omega arith, omega arith) c.requires.startup (omega arith, omega arith) quarter
          (omega arith) (omega (arith, late, is));
    }

pub returns-in-None-clause-value : goal.returns-in-None-clause-value
returns-in-None-clause-value c =
    let a = c.args in
    λ quarter number late.
    judged_on a.startup a.day a.entered (omega arith, omega arith) c.requires.startup (omega arith, omega arith) quarter
    (omega arith) (omega (arith, c.quarter_of.ensures.none.0 (ap is_some c.in-None.is), c.month.ensures.value))
