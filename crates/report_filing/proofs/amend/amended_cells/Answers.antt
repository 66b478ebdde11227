use Rattle.std.proofs.Common.{arith}
use Rattle.list_words.proofs.RangeLemmas.{filter_map_done}
use Rattle.ldar_law.specs.Reports as law
use Rattle.report_filing.proofs.amend.amended_cells.Goals as goal

pub returns : goal.returns
returns c =
    let change = law.amended_at c.as_slice-before.result.now c.as_slice-now.result.now in
    record {
      value = filter_map_done change c.loop-place.changes.items (law.amended c.args.old.now c.args.new.now) c.loop-place.place 36 (omega arith)
          c.loop-place.invariant;
    }
