use Rattle.std.proofs.Common.{◌≡◌, ℕ, ◌+◌, [], take}
use Rattle.fact_store.specs.Listing.{named_in}
use Rattle.fact_store.specs.Lists.{value_at}
use Rattle.fact_store.specs.Naming.{named_by}
use Rattle.fact_store.proofs.counts.add_spare.Given as goal

abbrev pub invariant-loop-fact : goal.invariant-loop-fact
invariant-loop-fact l =
    (n : ℕ) → value_at (λ c. c) 0 l.counts.items n
    ≡ value_at (λ c. c) 0 l.initial.counts.items n + named_in (named_by l.naming) [] (take l.fact-index l.spare) n
