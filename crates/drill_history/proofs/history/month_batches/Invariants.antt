use Rattle.std.proofs.Common.{◌≡◌, ◌≤◌, ◌+◌, ◌*◌, vec_len}
use Rattle.drill_history.specs.Drill as spec
use Rattle.drill_history.proofs.history.month_batches.Given as goal

abbrev pub invariant-loop-past : goal.invariant-loop-past
invariant-loop-past l = record {
  made : l.batches.items ≡ spec.numbered 1 1 (spec.month_parts l.seed l.size l.past);
  count : vec_len l.batches ≤ l.past * (l.size + 2);
}
