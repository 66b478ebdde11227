use Rattle.std.proofs.Common.{◌≡◌, take, drop, map}
use Rattle.office_views.proofs.copying.facts_at.Given as goal

abbrev pub invariant-loop-index : goal.invariant-loop-index
invariant-loop-index g l = l.facts.items ≡ take l.index (drop l.first (map (λ e. e.1) l.store.arrived))
