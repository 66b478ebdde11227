use Rattle.std.proofs.Common.{ℕ, ◌-◌, ◌<◌, ◌≤◌, List, length}
use Rattle.batch_positions.specs.declared.late_tree.Node.{Node}
use Rattle.batch_positions.specs.LateTree.{IsReached, KeepsPaths}
use Rattle.batch_positions.proofs.late_tree.end_of.Given as goal

-- what is reached from here is reached from the first node
abbrev pub invariant-loop-child : goal.invariant-loop-child
invariant-loop-child l = record {
  some : 0 < l.place;
  within : l.place ≤ length l.nodes;
  goes_on : (longer : List Node) (goal : ℕ) → KeepsPaths l.nodes longer → IsReached longer goal l.rest l.place → IsReached longer goal l.path 1;
}

abbrev pub decreases-loop-child : goal.decreases-loop-child
decreases-loop-child l = length l.nodes - l.place
