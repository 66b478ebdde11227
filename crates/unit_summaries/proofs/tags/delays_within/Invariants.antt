use Rattle.std.proofs.Common.{◌≡◌, take, filter}
use Rattle.ldar_law.specs.Tags as law
use Rattle.unit_summaries.proofs.tags.delays_within.Given as goal

abbrev pub invariant-loop-delay : goal.invariant-loop-delay
invariant-loop-delay l = l.own.items ≡ filter (λ d. law.is_within l.span d.key) (take l.delay-index l.delays)
