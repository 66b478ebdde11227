use Rattle.std.proofs.Common.{None}
use Rattle.fact_store.specs.Takes.{CanTake}
use Rattle.fact_store.proofs.TakeLemmas.{takes_none}
use Rattle.fact_store.proofs.put.put_place.Goals as goal

pub returns-in_default : goal.returns-in_default
returns-in_default c =
    let can : CanTake c.args.arrived.now None c.args.lists.now.items = rw c.in_default.is at c.requires.takes in
    rw c.in_default.is (takes_none c.args.arrived.now c.args.key.now c.args.lists.now.items can)
