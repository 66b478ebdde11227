use Rattle.std.proofs.Common.{sym, subst, drop, arith}
use Rattle.fact_kinds.specs.Fields.{IsAmong, days_or_none}
use Rattle.ldar_facts.specs.FieldForms.{day_or_none}
use Rattle.ldar_facts.specs.Number.{read_among}
use Rattle.ldar_facts.proofs.Days.{expected}
use Rattle.ldar_facts.proofs.Places.{number_to}
use Rattle.ldar_facts.proofs.field_at.day_or_none_at.Goals as goal

pub returns : goal.returns
unfolding day_or_none
returns c =
    let read = number_to 2 c.args.at days_or_none c.args.bytes.now c.in_ok-number.number c.in_ok-number.field-0-1.now
    (rw c.bytes_from.ensures at c.in_ok-number.ensures) in
    let among = read_among 2 days_or_none 0 (drop c.args.at c.args.bytes.now) c.in_ok-number.number _ (omega arith) read in
    let is = expected c.from.result c.of_number.result
    (subst (λ v. IsAmong v days_or_none) (sym c.from.ensures) among) c.of_number.ensures.none c.of_number.ensures.value in
    rw (read, ← is, c.from.ensures)
