use Rattle.std.proofs.Common.{◌≡◌, ◌<◌, ◌-◌, length, get_or, arith}
use Rattle.std.specs.Vec.{vec_len, vec_capacity}
use Rattle.fact_store.specs.Lists.{room_in}
use Rattle.fact_store.proofs.ListLemmas.{value_at-read, room_within, pushes_set}
use Rattle.fact_store.proofs.lists.push_in.Goals as goal

pub index_mut-requires : goal.index_mut-requires
index_mut-requires g c =
    let lists = c.args.lists.now in
    omega (arith, lists.ok.0, room_within lists.items c.args.number c.requires.roomy)

pub push_reserved-requires : goal.push_reserved-requires
push_reserved-requires g c =
    let lists = c.args.lists.now in
    let number = c.args.number in
    let list = c.index_mut.result.now in
    let within : number < length lists.items = room_within lists.items number c.requires.roomy in
    let read : list ≡ get_or lists.items number list = rw c.from.ensures at c.index_mut.ensures.value in
    let room : room_in lists.items number ≡ vec_capacity list - vec_len list = value_at-read
    (λ v. vec_capacity v - vec_len v) 0 lists.items number list within read in
    omega (arith, room, c.requires.roomy)

pub returns : goal.returns
returns g c =
    let lists = c.args.lists.now in
    let number = c.args.number in
    let list = c.index_mut.result.now in
    let within : number < length lists.items = room_within lists.items number c.requires.roomy in
    let read : list ≡ get_or lists.items number list = rw c.from.ensures at c.index_mut.ensures.value in
    record {
      value = rw c.from.ensures
          (pushes_set lists.items number c.args.element list c.push_reserved.new.self within read c.push_reserved.ensures.items c.push_reserved.ensures.len
          c.push_reserved.ensures.capacity);
    }
