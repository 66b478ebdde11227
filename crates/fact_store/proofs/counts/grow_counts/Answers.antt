use Rattle.std.proofs.Common.{refl, ◌∙◌}
use Rattle.fact_store.proofs.ListLemmas.{value_at-push}
use Rattle.fact_store.proofs.counts.grow_counts.Goals as goal

pub loop-counts-preserved : goal.loop-counts-preserved
loop-counts-preserved c = λ n. rw c.in_ok-push.ensures.items (value_at-push (λ c. c) 0 c.loop-counts.counts.items 0 n refl ∙ c.loop-counts.invariant n)
