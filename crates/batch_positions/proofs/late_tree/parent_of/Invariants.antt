use Rattle.std.proofs.Common.{◌-◌, length}
use Rattle.batch_positions.proofs.late_tree.parent_of.Given as goal

abbrev pub decreases-loop-child : goal.decreases-loop-child
decreases-loop-child l = length l.nodes - l.parent
