use Rattle.std.proofs.Common.{refl}
use Rattle.semiannual_report.proofs.report.report_of.Goals as goal
use Rattle.semiannual_report.proofs.SheetLemmas.{count_fits}

pub returns-clause-value : goal.returns-clause-value
returns-clause-value c = λ are.
    let months = c.half_cells-months.ensures.value (count_fits c.args.sheets.now are) in
    rw (
      months,
      c.half_month.ensures.value,
      c.new.ensures.value,
      c.new-2.ensures.value,
      c.in_ok-delays.ensures.value,
      c.in_ok-stops.ensures.value,
      c.half_first-first.ensures.value,
      c.half_last-last.ensures.value,
    ) refl
