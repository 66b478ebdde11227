use Rattle.std.proofs.Common.{◌≡◌, ℕ, ◌≤◌, nat_eq, unwrap_or, count_by, take}
use Rattle.std.specs.HashMap.{get}
use Rattle.fact_store.specs.Lists.{room_in, OnlyGrow}
use Rattle.fact_store.proofs.lists.make_rooms.Given as goal

abbrev pub invariant-loop-number : goal.invariant-loop-number
invariant-loop-number g l = record {
  grows : OnlyGrow l.initial.lists.items l.lists.items;
  counted : (q : ℕ) → unwrap_or (get nat_eq l.counts q) 0 ≡ count_by (λ n. nat_eq n q) (take l.number-index l.numbers);
  roomy : (q : ℕ) → count_by (λ n. nat_eq n q) (take l.number-index l.numbers) ≤ room_in l.lists.items q;
}
