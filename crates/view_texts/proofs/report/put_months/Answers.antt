use Rattle.ldar_law.specs.Texts.{month_line}
use Rattle.list_words.proofs.RangeLemmas.{flat_map_done}
use Rattle.view_texts.proofs.report.put_months.Goals as goal

pub returns : goal.returns
returns c = record {
  value = flat_map_done (month_line c.args.first c.args.cells.now) _ _ c.loop-place.place 6 c.loop-place-test.false c.loop-place.invariant;
}
