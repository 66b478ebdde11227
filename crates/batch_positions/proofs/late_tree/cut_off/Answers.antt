use Rattle.batch_positions.proofs.TreeLemmas.{cuts_off}
use Rattle.batch_positions.proofs.late_tree.cut_off.Goals as goal

pub returns-in-Some : goal.returns-in-Some
returns-in-Some c = record {
  value = cuts_off c.in-Some.parent c.in-Some.rest c.args.place c.args.nodes.now c.set_child.new.nodes c.in-Some.ensures.found c.set_child.ensures.value;
}
