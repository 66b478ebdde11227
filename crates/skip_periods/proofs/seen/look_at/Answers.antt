use Rattle.std.proofs.Common.{◌≡◌, refl, sym, ◌∙◌, arith}
use Rattle.ldar_days.specs.Calendar.{month_of}
use Rattle.skip_periods.proofs.SeenLemmas.{lies_at, lies_nowhere, looks_unseen, looks_before, looks_behind, looks_within}
use Rattle.skip_periods.proofs.seen.look_at.Goals as goal

pub returns-then-not-is_routine : goal.returns-then-not-is_routine
returns-then-not-is_routine c = record {
  value = λ startup first_is. looks_unseen startup c.args.e.now c.args.seen.now.items (sym c.is_routine.ensures.value ∙ c.if-not-is_routine.true);
}

pub returns-then-month-first : goal.returns-then-month-first
returns-then-month-first c =
    let a = c.args in
    let month = c.number-month.result in
    let month_is : month ≡ month_of a.e.now.key.day = c.number-month.ensures.value ∙ c.month.ensures.value in
    record {
      value = λ startup first_is.
          looks_before startup a.e.now a.seen.now.items (lies_nowhere startup a.first month a.e.now first_is month_is (omega (arith, c.if-month-first.true)));
    }

pub returns-then-place-len : goal.returns-then-place-len
returns-then-place-len c =
    let a = c.args in
    let month = c.number-month.result in
    let month_is : month ≡ month_of a.e.now.key.day = c.number-month.ensures.value ∙ c.month.ensures.value in
    record {
      value = λ startup first_is.
          looks_within startup a.e.now a.seen.now.items _ c.index.result.now c.seen_with.result
          (omega (arith, c.if-place-len.true, c.len.ensures, a.seen.now.ok))
          (lies_at startup a.first month _ a.e.now first_is month_is (omega (arith, c.if-month-first.false)) refl)
          c.index.ensures c.seen_with.ensures.leaking c.seen_with.ensures.monitored;
    }

pub returns-else-place-len : goal.returns-else-place-len
returns-else-place-len c =
    let a = c.args in
    let month = c.number-month.result in
    let month_is : month ≡ month_of a.e.now.key.day = c.number-month.ensures.value ∙ c.month.ensures.value in
    record {
      value = λ startup first_is.
          looks_behind startup a.e.now a.seen.now.items _ (omega (arith, c.if-place-len.false, c.len.ensures, a.seen.now.ok))
          (lies_at startup a.first month _ a.e.now first_is month_is (omega (arith, c.if-month-first.false)) refl);
    }
