use Rattle.std.proofs.Common.{◌≡◌, take, drop, map}
use Rattle.office_views.proofs.comparing.are_facts_at.Given as goal

abbrev pub invariant-loop-index : goal.invariant-loop-index
invariant-loop-index g l = take l.index (drop l.first (map (λ e. e.1) l.store.arrived)) ≡ take l.index l.facts
