use Rattle.std.proofs.Common.{◌≡◌, ℕ, ◌+◌, [], take}
use Rattle.fact_store.specs.Listing.{named_in}
use Rattle.fact_store.specs.Lists.{value_at}
use Rattle.fact_store.specs.Naming.{named_by}
use Rattle.fact_store.proofs.counts.add_counts.Given as goal

abbrev pub invariant-loop-entry : goal.invariant-loop-entry
invariant-loop-entry l =
    (n : ℕ) → value_at (λ c. c) 0 l.counts.items n
    ≡ value_at (λ c. c) 0 l.initial.counts.items n + named_in (named_by l.naming) (take l.entry-index l.part) [] n
