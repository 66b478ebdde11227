use Rattle.std.proofs.Common.{◌≡◌, filter, take}
use Rattle.ldar_law.specs.Slices as slices
use Rattle.component_register.proofs.register.entries_among.Given as goal

abbrev pub invariant-loop-fact : goal.invariant-loop-fact
invariant-loop-fact l = l.entries.items ≡ filter (λ fact. slices.is_registered fact.body) (take l.fact-index l.facts)
