use Rattle.std.proofs.Common.{◌≡◌, ◌∙◌, ap, min, arith}
use Rattle.jiff_core.proofs.SignedLemmas.{signed_arith}
use Rattle.ldar_days.specs.Calendar.{IsDay, later_by}
use Rattle.ldar_days.proofs.Sums.{later_by-until, month_of-later_by, place_of-later_by, later_by-past, day_at-from}
use Rattle.ldar_days.proofs.day.Day.plus_months.Goals as goal

pub until_end-requires : goal.until_end-requires
until_end-requires c =
    let day : IsDay c.args.self = (omega arith, omega arith) in
    record { from_2008 = omega (arith, signed_arith, c.months_later.ensures.value, day_at-from c.min.result c.args.self day) }

pub returns-clause-value : goal.returns-clause-value
returns-clause-value c =
    let day : IsDay c.args.self = (omega arith, omega arith) in
    let least : c.min.result ≡ min c.args.months 25_199 = omega arith in
    c.until_end.ensures.value _ c.months_later.ensures.value ∙ ap (λ k. later_by k c.args.self) least ∙ later_by-until c.args.months c.args.self day

pub returns-clause-month : goal.returns-clause-month
returns-clause-month c = λ within.
    let day : IsDay c.args.self = (omega arith, omega arith) in
    rw (returns-clause-value c) (month_of-later_by c.args.months c.args.self day within)

pub returns-clause-place : goal.returns-clause-place
returns-clause-place c = λ within.
    let day : IsDay c.args.self = (omega arith, omega arith) in
    rw (returns-clause-value c) (place_of-later_by c.args.months c.args.self day within)

pub returns-clause-past_end : goal.returns-clause-past_end
returns-clause-past_end c = λ past. returns-clause-value c ∙ later_by-past c.args.months c.args.self (omega arith)
