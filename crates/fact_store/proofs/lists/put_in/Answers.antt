use Rattle.std.proofs.Common.{◌≡◌, ◌<◌, ◌-◌, [], true, is_ok, length, get_or, ap, arith}
use Rattle.std.specs.Vec.{vec_len, vec_capacity}
use Rattle.fact_store.specs.Lists.{items_in, room_in}
use Rattle.fact_store.proofs.ListLemmas.{value_at-read, room_within, puts_set}
use Rattle.fact_store.proofs.lists.put_in.Goals as goal

pub index_mut-requires : goal.index_mut-requires
index_mut-requires g c =
    let lists = c.args.lists.now in
    omega (arith, lists.ok.0, room_within lists.items c.args.number c.requires.roomy)

pub insert-requires : goal.insert-requires
insert-requires g c =
    let lists = c.args.lists.now in
    let list = c.index_mut.result.now in
    let within = room_within lists.items c.args.number c.requires.roomy in
    let here : items_in lists.items c.args.number ≡ list.items =
    value_at-read (λ v. v.items) [] lists.items c.args.number list within (rw c.from.ensures at c.index_mut.ensures.value) in
    omega (arith, c.requires.within, ap length here, list.ok.0)

pub returns : goal.returns
returns g c =
    let lists = c.args.lists.now in
    let number = c.args.number in
    let list = c.index_mut.result.now in
    let within : number < length lists.items = room_within lists.items number c.requires.roomy in
    let read : list ≡ get_or lists.items number list = rw c.from.ensures at c.index_mut.ensures.value in
    let room : room_in lists.items number ≡ vec_capacity list - vec_len list = value_at-read
    (λ v. vec_capacity v - vec_len v) 0 lists.items number list within read in
    let ok : is_ok c.insert.result ≡ true = c.insert.ensures.succeeds (omega (arith, room, c.requires.roomy)) in
    record {
      value = rw c.from.ensures
          (puts_set lists.items number c.args.index c.args.element list c.insert.new.self within read
          (rw ok at c.insert.ensures.items) (rw ok at c.insert.ensures.len) c.insert.ensures.capacity);
    }
