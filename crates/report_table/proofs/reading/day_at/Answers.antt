use Rattle.std.proofs.Common.{◌≡◌, take, drop, sym, ap, ◌∙◌}
use Rattle.ldar_days.specs.Calendar.{IsDay}
use Rattle.fact_kinds.specs.Fields.{big_endian}
use Rattle.report_table.proofs.ReadBack.{if_some_then}
use Rattle.report_table.proofs.reading.day_at.Goals as goal

pub returns-clause-value : goal.returns-clause-value
returns-clause-value c =
    if_some_then (λ day. IsDay c.from.result × (day ≡ c.from.result)) (λ day. take 2 (drop c.args.at c.args.bytes.now) ≡ big_endian 2 day)
    c.of_number.result (λ day is. c.two_at.ensures.value ∙ ap (big_endian 2) (sym c.from.ensures ∙ sym is.1)) c.of_number.ensures.value
