use Rattle.std.proofs.Common.{◌<◌, length, arith}
use Rattle.std.proofs.lemmas.Result.{on_ok_weaker}
use Rattle.fact_store.proofs.ListLemmas.{grows_on, grows_set, room_set}
use Rattle.fact_store.proofs.lists.make_room.Goals as goal

pub returns-clause-grows : goal.returns-clause-grows
returns-clause-grows g c =
    let lists = c.grow.new.lists in
    let within : c.args.at < length lists.items = omega (arith, c.in_ok-grow.ensures.long, lists.ok.0) in
    grows_on c.args.lists.now.items lists.items _ c.in_ok-grow.ensures.grows
    (grows_set lists.items c.args.at c.index_mut.result.now c.reserve.new.self within c.index_mut.ensures.value c.reserve.ensures.items
    c.reserve.ensures.len c.reserve.ensures.capacity)

pub returns-clause-roomy : goal.returns-clause-roomy
returns-clause-roomy g c =
    let lists = c.grow.new.lists in
    let within : c.args.at < length lists.items = omega (arith, c.in_ok-grow.ensures.long, lists.ok.0) in
    on_ok_weaker c.reserve.result
    (λ roomy. rw (room_set lists.items c.args.at c.reserve.new.self within) (omega (arith, roomy)))
    c.reserve.ensures.ok
