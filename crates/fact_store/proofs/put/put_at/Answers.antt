use Rattle.std.proofs.Common.{◌≤◌, length, refl, ap, arith}
use Rattle.fact_store.specs.Lists.{items_in}
use Rattle.fact_store.proofs.TakeLemmas.{takes_put}
use Rattle.fact_store.proofs.put.put_at.Goals as goal

pub returns : goal.returns
returns c =
    let here = c.list_of.ensures.value in
    let within : c.index_for-index.result ≤ length (items_in c.args.lists.now.items c.args.number) = omega
    (arith, c.index_for-index.ensures.within, ap length here) in
    takes_put c.args.arrived.now c.args.number c.args.key.now c.args.lists.now.items c.put_in.new.lists.items c.index_for-index.result _
    c.requires.takes refl within
    (λ fact. rw here at (c.index_for-index.ensures.value fact)) c.put_in.ensures.value
