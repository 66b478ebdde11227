use Rattle.std.proofs.Common.{◌∙◌}
use Rattle.unit_summaries.proofs.RowLemmas.{count_push}
use Rattle.unit_summaries.proofs.counts.make_counts.Goals as goal

pub loop-counts-preserved : goal.loop-counts-preserved
loop-counts-preserved c = λ n. rw c.in_ok-push.ensures.items (count_push c.loop-counts.counts.items n ∙ c.loop-counts.invariant n)
