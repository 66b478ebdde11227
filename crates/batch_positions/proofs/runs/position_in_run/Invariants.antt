use Rattle.batch_positions.specs.Index.{IsSought}
use Rattle.batch_positions.proofs.runs.position_in_run.Given as goal

-- no entry of the run after the link has the identity
abbrev pub invariant-loop-entry : goal.invariant-loop-entry
invariant-loop-entry l = IsSought l.entries l.identity l.link

abbrev pub decreases-loop-entry : goal.decreases-loop-entry
decreases-loop-entry l = l.link
