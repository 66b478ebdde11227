use Rattle.std.proofs.Common.{◌∙◌, sym, ap, arith}
use Rattle.jiff_core.proofs.SignedLemmas.{signed_arith}
use Rattle.jiff.specs.Words.{date_view}
use Rattle.ldar_days.proofs.Dates.{day_text-not_refused, day_text-read, some_is}
use Rattle.ldar_days.proofs.text.day_read.Goals as goal

pub returns-in_default-clause-day_text : goal.returns-in_default-clause-day_text
returns-in_default-clause-day_text c = λ n day is.
    absurd (day_text-not_refused c.args.text.now n c.in_default.field-0 (ap date_view (sym c.in_default.is) ∙ c.parse_date.ensures) day is)

pub returns-in_err-checked_sub-clause-day_text : goal.returns-in_err-checked_sub-clause-day_text
returns-in_err-checked_sub-clause-day_text c = λ n day is.
    let number = day_text-read c.args.text.now n c.in-Ok.date (ap date_view (sym c.in-Ok.is) ∙ c.parse_date.ensures) day is in
    absurd (omega (arith, signed_arith, c.days_since_min.ensures.value, c.in_err-checked_sub.ensures))

pub returns-clause-day_text : goal.returns-clause-day_text
returns-clause-day_text c = λ n day is.
    let number = day_text-read c.args.text.now n c.in-Ok.date (ap date_view (sym c.in-Ok.is) ∙ c.parse_date.ensures) day is in
    some_is c.of_number.result c.in_ok-checked_sub.field-0 n (c.of_number.ensures.none) (c.of_number.ensures.value) day
    (omega (arith, signed_arith, c.days_since_min.ensures.value, c.in_ok-checked_sub.ensures))
