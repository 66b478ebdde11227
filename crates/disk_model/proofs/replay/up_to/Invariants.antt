use Rattle.std.proofs.Common.{◌≡◌, ◌≤◌, length, take, reverse}
use Rattle.disk_model.specs.Stopped.{up_to}
use Rattle.disk_model.proofs.replay.up_to.Given as goal

-- the calls after the place are later than the given one
abbrev pub invariant-loop-n : goal.invariant-loop-n
invariant-loop-n l = (l.n ≤ length l.past) × (up_to l.call (reverse l.past) ≡ up_to l.call (reverse (take l.n l.past)))

abbrev pub decreases-loop-n : goal.decreases-loop-n
decreases-loop-n l = l.n
