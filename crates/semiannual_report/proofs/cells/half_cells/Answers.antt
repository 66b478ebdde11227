use Rattle.std.proofs.Common.{rules, ◌∙◌}
use Rattle.ldar_law.specs.Reports as law
use Rattle.semiannual_report.proofs.cells.half_cells.Goals as goal
use Rattle.semiannual_report.proofs.PushedLemmas.{cells_more, cells_done}

pub loop-month-preserved : goal.loop-month-preserved
loop-month-preserved c = (
  search rules,
  λ few.
      rw c.put_six.ensures.value (cells_more (law.month_cells c.args.day c.args.sheets.now) c.args.first c.loop-month.month c.loop-month.cells
      c.month_cells-six.result c.loop-month-test.true c.loop-month.invariant.0 (search rules) (c.month_cells-six.ensures.value few))
      ∙ c.loop-month.invariant.1 few,
)

pub returns : goal.returns
returns c = record {
  value = λ few. c.new.ensures.value
      ∙ cells_done (law.month_cells c.args.day c.args.sheets.now) c.args.first c.loop-month.month c.loop-month.cells c.loop-month-test.false
      c.loop-month.invariant.0 (c.loop-month.invariant.1 few);
}
