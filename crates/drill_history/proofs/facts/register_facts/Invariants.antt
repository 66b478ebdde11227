use Rattle.std.proofs.Common.{◌≡◌, ◌+◌, ◌∷◌, vec_len}
use Rattle.drill_history.specs.Drill as spec
use Rattle.drill_history.proofs.facts.register_facts.Given as goal

abbrev pub invariant-loop-count : goal.invariant-loop-count
invariant-loop-count l = record {
  made : l.facts.items ≡ spec.unit_fact ∷ spec.valves l.count;
  count : vec_len l.facts ≡ l.count + 1;
}
