use Rattle.std.proofs.Common.{◌≡◌, ℕ, ◌-◌, length, Some}
use Rattle.batch_positions.specs.Links.{at_position}
use Rattle.batch_positions.specs.declared.late_tree.Node.{Node}
use Rattle.batch_positions.specs.LateTree.{IsReached}
use Rattle.batch_positions.proofs.late_tree.find_in.Given as goal

-- a node with the identity is reached from here
abbrev pub invariant-loop-node : goal.invariant-loop-node
invariant-loop-node l = (at : ℕ) (node : Node) → at_position l.nodes at ≡ Some node → node.late.identity ≡ l.identity → IsReached l.nodes at l.path l.place

abbrev pub decreases-loop-node : goal.decreases-loop-node
decreases-loop-node l = length l.nodes - l.place
