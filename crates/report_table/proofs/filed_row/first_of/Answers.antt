use Rattle.std.proofs.Common.{sym}
use Rattle.report_table.proofs.MemoryRows.{found_last, found_one}
use Rattle.report_table.proofs.filed_row.first_of.Goals as goal

pub returns-in_ok-row_of-in-Some : goal.returns-in_ok-row_of-in-Some
returns-in_ok-row_of-in-Some c = record {
  last = λ all h. found_last c.args.unit c.args.half all c.args.shown.now c.in-Some.row.now c.in_ok-row_of-in-Some.field-0 (sym c.in-Some.ensures.value)
      c.in_ok-row_of-in-Some.ensures.asked c.in_ok-row_of-in-Some.ensures.value h;
  one = λ all revision h. found_one c.args.unit c.args.half revision all c.args.shown.now c.in-Some.row.now c.in_ok-row_of-in-Some.field-0 (sym c.in-Some.ensures.value)
      c.in_ok-row_of-in-Some.ensures.asked c.in_ok-row_of-in-Some.ensures.value h;
}
