use Rattle.std.proofs.Common.{arith}
use Rattle.batch_positions.proofs.IndexLemmas.{starts, roomy_none}
use Rattle.batch_positions.proofs.positions.Positions.new.Goals as goal

pub invariant_of-result : goal.invariant_of-result
invariant_of-result c = (
  starts c.new.result.items c.in_ok-vec.field-0.items c.new-2.result.lates c.new.ensures.items (c.in_ok-vec.ensures.items_if_clones_equal (λ y same. same))
      c.new-2.ensures.value,
  omega (arith, c.new.ensures.len),
  omega (arith, c.new.ensures.len),
  roomy_none c.new.result.items c.new-2.result.room,
)
