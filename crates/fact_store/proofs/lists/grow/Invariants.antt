use Rattle.std.proofs.Common.{◌-◌, vec_len}
use Rattle.fact_store.specs.Lists.{OnlyGrow}
use Rattle.fact_store.proofs.lists.grow.Given as goal

abbrev pub invariant-loop-alloc : goal.invariant-loop-alloc
invariant-loop-alloc g l = OnlyGrow l.initial.lists.items l.lists.items

abbrev pub decreases-loop-alloc : goal.decreases-loop-alloc
decreases-loop-alloc g l = l.count - vec_len l.lists
