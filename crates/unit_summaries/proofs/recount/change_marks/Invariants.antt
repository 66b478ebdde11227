use Rattle.unit_summaries.proofs.RecountLemmas.{Changing}
use Rattle.unit_summaries.proofs.recount.change_marks.Given as goal

abbrev pub invariant-loop-place : goal.invariant-loop-place
invariant-loop-place l = Changing l.first l.second l.initial.tallies.items l.tallies.items l.place
