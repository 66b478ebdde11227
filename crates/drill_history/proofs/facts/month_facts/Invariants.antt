use Rattle.std.proofs.Common.{◌≡◌, ◌+◌, ◌∷◌, vec_len}
use Rattle.drill_history.specs.Drill as spec
use Rattle.drill_history.proofs.facts.month_facts.Given as goal

abbrev pub invariant-loop-count : goal.invariant-loop-count
invariant-loop-count l = record {
  made : l.facts.items ≡ spec.precision_in l.month ∷ spec.calibration_in l.month ∷ spec.readings l.seed l.month l.count;
  count : vec_len l.facts ≡ l.count + 2;
  day : l.day ≡ spec.day_in l.month;
}
