use Rattle.unit_summaries.proofs.TallyLemmas.{Counting}
use Rattle.unit_summaries.proofs.tallies.add_marks.Given as goal

abbrev pub invariant-loop-place : goal.invariant-loop-place
invariant-loop-place l = Counting l.marks l.initial.tallies.items l.tallies.items l.place
