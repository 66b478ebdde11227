use Rattle.batch_positions.proofs.TreeLemmas.{hangs}
use Rattle.batch_positions.proofs.late_tree.hang.Goals as goal

pub returns-then-not-is_empty : goal.returns-then-not-is_empty
returns-then-not-is_empty c =
    let end = c.end_of-end in
    record {
      value = hangs c.args.path end.result.1 end.result.0 c.args.place c.args.nodes.now c.set_child.new.nodes c.requires.next
          end.ensures.within.0 end.ensures.within.1 end.ensures.ends end.ensures.goes_on c.set_child.ensures.value;
    }
