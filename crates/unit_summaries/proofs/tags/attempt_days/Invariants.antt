use Rattle.std.proofs.Common.{◌≡◌, take}
use Rattle.ldar_law.specs.Tags as law
use Rattle.unit_summaries.proofs.tags.attempt_days.Given as goal

abbrev pub invariant-loop-e : goal.invariant-loop-e
invariant-loop-e l = l.days.items ≡ law.attempt_days (take l.e-index l.events)
