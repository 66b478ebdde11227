use Rattle.fact_store.proofs.ListLemmas.{grows_push, grows_on}
use Rattle.fact_store.proofs.lists.grow.Goals as goal

pub loop-alloc-preserved : goal.loop-alloc-preserved
loop-alloc-preserved g c =
    rw c.in_ok-push.ensures.items
    (grows_on c.args.lists.now.items c.loop-alloc.lists.items _ c.loop-alloc.invariant (grows_push c.loop-alloc.lists.items c.new.result c.new.ensures.items))
