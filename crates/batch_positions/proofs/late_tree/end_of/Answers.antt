use Rattle.std.proofs.Common.{arith}
use Rattle.batch_positions.proofs.TreeLemmas.{way_back}
use Rattle.batch_positions.proofs.late_tree.end_of.Goals as goal

pub loop-child-preserved : goal.loop-child-preserved
loop-child-preserved c =
    let on = c.in-Some.ensures.found in
    let later = on.later in
    record {
      some = omega arith;
      within = on.within;
      goes_on = λ longer goal keeps reached. c.loop-child.invariant.goes_on longer goal keeps
          (way_back c.args.nodes.now longer goal c.loop-child.rest c.loop-child.place c.in-Some.child keeps on reached);
    }
