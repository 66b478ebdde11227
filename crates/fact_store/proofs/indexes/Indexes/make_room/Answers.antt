use Rattle.std.proofs.lemmas.Result.{on_ok_weaker}
use Rattle.fact_store.proofs.indexes.Indexes.make_room.Goals as goal

pub returns-clause-ok : goal.returns-clause-ok
returns-clause-ok c =
    on_ok_weaker c.make_room-4.result
    (λ turns arrived spare keep count. record {
      by_component = (rw c.deref.ensures.value at c.in_ok-make_room.ensures.ok) _ arrived spare keep.by_component count.by_component;
      by_unit = (rw c.deref-2.ensures.value at c.in_ok-make_room-2.ensures.ok) _ arrived spare keep.by_unit count.by_unit;
      by_instrument = (rw c.deref-3.ensures.value at c.in_ok-make_room-3.ensures.ok) _ arrived spare keep.by_instrument count.by_instrument;
      by_reading = turns _ arrived spare keep.by_reading count.by_reading;
    })
    (rw c.deref-4.ensures.value at c.make_room-4.ensures.ok)

pub returns-clause-counted : goal.returns-clause-counted
returns-clause-counted c =
    on_ok_weaker c.make_room-4.result
    (λ turns arrived spare count. record {
      by_component = c.make_room.ensures.counted arrived spare _ count.by_component;
      by_unit = c.make_room-2.ensures.counted arrived spare _ count.by_unit;
      by_instrument = c.make_room-3.ensures.counted arrived spare _ count.by_instrument;
      by_reading = c.make_room-4.ensures.counted arrived spare _ count.by_reading;
    })
    c.make_room-4.ensures.ok
