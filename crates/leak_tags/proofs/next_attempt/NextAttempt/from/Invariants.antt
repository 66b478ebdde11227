use Rattle.std.proofs.Common.{◌≡◌, ℕ, ◌≤◌, drop}
use Rattle.ldar_law.specs.Spans.{attempt_after}
use Rattle.leak_tags.proofs.next_attempt.NextAttempt.from.Given as goal

abbrev pub invariant-loop-place : goal.invariant-loop-place
invariant-loop-place l = record {
  low : l.fn.from ≤ l.place;
  ahead : (k : ℕ) → l.fn.from ≤ k → k ≤ l.place → attempt_after (drop k l.events) ≡ attempt_after (drop l.place l.events);
}
