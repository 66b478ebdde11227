use Rattle.std.proofs.Common.{ℕ, ◌<◌, ◌≤◌}
use Rattle.fact_store.specs.Lists.{room_in, value_at, OnlyGrow}
use Rattle.fact_store.proofs.lists.make_rooms_for.Given as goal

abbrev pub invariant-loop-at : goal.invariant-loop-at
invariant-loop-at g l = record {
  grows : OnlyGrow l.initial.lists.items l.lists.items;
  roomy : (n : ℕ) → n < l.at → value_at (λ c. c) 0 l.counts n ≤ room_in l.lists.items n;
}
