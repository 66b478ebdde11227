use Rattle.component_register.proofs.RowLemmas.{adds_on, adds_push}
use Rattle.component_register.proofs.slots.add_rows.Goals as goal

pub loop-empty-preserved : goal.loop-empty-preserved
loop-empty-preserved g c =
    rw c.in_ok-push.ensures.items
    (adds_on c.args.empty c.args.rows.now.items c.loop-empty.rows.items _ c.loop-empty.invariant (adds_push c.args.empty c.loop-empty.rows.items))
