use Rattle.std.proofs.Common.{◌≡◌, ◌∙◌, sym}
use Rattle.ldar_days.proofs.Texts.{day_of-none, day_of-same, day_text-other}
use Rattle.ldar_days.proofs.day.Day.read.Goals as goal

pub returns-in_err-day-clause-value : goal.returns-in_err-day-clause-value
returns-in_err-day-clause-value c =
    let was = c.in_err-day.was in
    c.from_residual.ensures ∙ sym (day_of-none c.args.text.now (λ n day is. let some = c.day_read.ensures.day_text n day is in cc))

pub returns-then-ne-clause-value : goal.returns-then-ne-clause-value
returns-then-ne-clause-value c =
    let was = c.in_ok-day.was in
    sym (day_of-none c.args.text.now (λ n day is.
    let some = c.day_read.ensures.day_text n day is in
    let same : c.in_ok-day.day ≡ n = cc in
    day_text-other c.args.text.now c.as_slice.result.now n (c.as_slice.ensures ∙ rw same at c.text.ensures.value) is c.if-ne.ensures))

pub returns-clause-value : goal.returns-clause-value
returns-clause-value c =
    let found = c.in_ok-day.ensures.found in
    day_of-same c.args.text.now c.as_slice.result.now c.in_ok-day.day found (c.as_slice.ensures ∙ c.text.ensures.value) c.if-ne.ensures
