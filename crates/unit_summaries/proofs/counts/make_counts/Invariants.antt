use Rattle.std.proofs.Common.{◌≡◌, ℕ, ◌+◌, ◌-◌, vec_len}
use Rattle.fact_store.specs.Lists.{value_at}
use Rattle.unit_summaries.proofs.counts.make_counts.Given as goal

abbrev pub invariant-loop-counts : goal.invariant-loop-counts
invariant-loop-counts l = (n : ℕ) → value_at (λ c. c) 0 l.counts.items n ≡ value_at (λ c. c) 0 l.initial.counts.items n

abbrev pub decreases-loop-counts : goal.decreases-loop-counts
decreases-loop-counts l = l.number + 1 - vec_len l.counts
