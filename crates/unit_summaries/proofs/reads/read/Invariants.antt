use Rattle.std.proofs.Common.{◌≡◌, ◌+◌, ◌≤◌, length, take}
use Rattle.std.specs.Vec.{vec_capacity}
use Rattle.fact_store.specs.Kept.{entries_at}
use Rattle.unit_summaries.proofs.reads.read.Given as goal

abbrev pub invariant-loop-place : goal.invariant-loop-place
invariant-loop-place g l = record {
  value : l.facts.items ≡ entries_at l.store.arrived (take l.place-index l.places);
  long : length l.facts.items ≡ l.place-index;
  room : length l.places ≤ vec_capacity l.facts;
  counted : l.steps ≡ l.initial.steps + l.place-index;
}
