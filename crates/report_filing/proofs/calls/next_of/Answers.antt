use Rattle.std.proofs.Common.{sym, subst, Some}
use Rattle.disk_model.specs.Told.{Told}
use Rattle.report_filing.specs.Calls.{IsNextOf}
use Rattle.report_filing.proofs.CallLemmas.{report, next_none, next_one}
use Rattle.report_filing.proofs.calls.next_of.Goals as goal

pub returns-in_default-clause-value : goal.returns-in_default-clause-value
returns-in_default-clause-value g c =
    next_none c.args.unit c.args.half c.args.day c.args.cells.now c.in_ok-last.last (g.F.Filing.on_file c.args.filing.now)
    c.in_ok-last.ensures.value c.latest.ensures.numbered (sym c.in_default.ensures.value)

pub returns-clause-value : goal.returns-clause-value
returns-clause-value g c =
    let told = g.F.Filing.on_file c.args.filing.now in
    subst (λ cells. Told told (IsNextOf c.args.unit c.args.half c.args.day c.args.cells.now (Some (report c.args.unit c.args.half c.args.day cells c.in-Some.revision))))
    (sym c.in_ok-copy_of.ensures.value)
    (next_one c.args.unit c.args.half c.args.day c.in-Some.revision c.args.cells.now c.in_ok-last.last told c.in_ok-last.ensures.value
    c.latest.ensures.numbered (sym c.in-Some.ensures.value))
