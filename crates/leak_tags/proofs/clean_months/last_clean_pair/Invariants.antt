use Rattle.leak_tags.specs.CleanPairs.{TellsLast}
use Rattle.leak_tags.proofs.clean_months.last_clean_pair.Given as goal

abbrev pub invariant-loop-place : goal.invariant-loop-place
invariant-loop-place l = TellsLast l.months l.events l.place

abbrev pub decreases-loop-place : goal.decreases-loop-place
decreases-loop-place l = l.place
