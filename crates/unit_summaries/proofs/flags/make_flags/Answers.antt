use Rattle.std.proofs.Common.{◌∙◌}
use Rattle.unit_summaries.proofs.RowLemmas.{flag_push}
use Rattle.unit_summaries.proofs.flags.make_flags.Goals as goal

pub loop-flags-preserved : goal.loop-flags-preserved
loop-flags-preserved c = λ n. rw c.in_ok-push.ensures.items (flag_push c.loop-flags.flags.items n ∙ c.loop-flags.invariant n)
