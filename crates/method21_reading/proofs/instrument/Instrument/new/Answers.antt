use Rattle.std.proofs.Common.{◌≡◌, Bool, List, filter, length, take, sym, ap, subst, ◌∙◌, arith}
use Rattle.std.proofs.lemmas.List.{take_all}
use Rattle.list_words.specs.Order.{Ascends}
use Rattle.fact_kinds.specs.Facts.{Entry, goes_first}
use Rattle.method21_reading.specs.Gases.{AreLeast}
use Rattle.method21_reading.specs.Instruments.{is_calibrating, is_passed_test, is_failed_drift}
use Rattle.method21_reading.specs.Leaps.{LeapsFrom}
use Rattle.method21_reading.proofs.FrontLemmas.{ascends_filter}
use Rattle.method21_reading.proofs.instrument.Instrument.new.Goals as goal

pub least_gases-requires : goal.least_gases-requires
least_gases-requires c =
    let facts = c.args.facts.now in
    let l = c.loop-e in
    let all : take l.e-index facts ≡ facts = take_all l.e-index facts (omega (arith, c.loop-e-test.false)) in
    record {
      ordered = subst (Ascends goes_first) (sym (c.deref-3.ensures.value ∙ l.invariant.calibrations ∙ ap (filter (λ e. is_calibrating e.1.body)) all))
          (ascends_filter goes_first (λ e. is_calibrating e.1.body) facts c.requires.ordered);
    }

pub invariant_of-result : goal.invariant_of-result
invariant_of-result c =
    let facts = c.args.facts.now in
    let l = c.loop-e in
    let all : take l.e-index facts ≡ facts = take_all l.e-index facts (omega (arith, c.loop-e-test.false)) in
    let ascends : (test : Entry → Bool) (kept : List Entry) → kept ≡ filter test (take l.e-index facts) → Ascends goes_first kept =
    λ test kept is. subst (Ascends goes_first) (sym (is ∙ ap (filter test) all)) (ascends_filter goes_first test facts c.requires.ordered) in (
      ascends (λ e. is_calibrating e.1.body) l.calibrations.items l.invariant.calibrations,
      ascends (λ e. is_passed_test e.1.body) l.tests.items l.invariant.tests,
      ascends (λ e. is_failed_drift e.1.body) l.drifts.items l.invariant.drifts,
      subst (λ es. AreLeast es c.in_ok-least.least.items) c.deref-3.ensures.value c.in_ok-least.ensures.value,
      subst (λ es. length c.in_ok-least.least.items ≡ length es) c.deref-3.ensures.value c.in_ok-least.ensures.all,
      subst (λ es. LeapsFrom es c.in_ok-leaps.leaps.items 0) c.deref-4.ensures.value c.in_ok-leaps.ensures.value,
    )
