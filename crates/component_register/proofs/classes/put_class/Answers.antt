use Rattle.std.proofs.Common.{◌≡◌, ◌-◌, true, [], refl, ap, ◌∙◌, subst, arith}
use Rattle.std.specs.Vec.{vec_len, vec_capacity}
use Rattle.std.proofs.lemmas.Bool.{eq-eqb}
use Rattle.list_words.specs.Order.{Ascends}
use Rattle.fact_kinds.specs.Named.{is_numbered}
use Rattle.fact_store.specs.Lists.{items_in, room_in}
use Rattle.fact_store.proofs.ListLemmas.{value_at-read, room_within}
use Rattle.component_register.specs.Classes.{class_named, day_first, put_day_if_any}
use Rattle.component_register.proofs.DayLemmas.{entered_is, puts_day}
use Rattle.component_register.proofs.classes.put_class.Goals as goal

pub index_mut-requires : goal.index_mut-requires
index_mut-requires c =
    let lists = c.args.classes.now in
    let number = c.in-Class.component in
    let named : is_numbered (class_named c.args.body.now) number ≡ true = rw c.in-Class.is (eq-eqb number number refl) in
    omega (arith, lists.ok.0, room_within lists.items number (c.requires.roomy number named), c.from.ensures)

pub put_day-requires-clause-roomy : goal.put_day-requires-clause-roomy
put_day-requires-clause-roomy c =
    let lists = c.args.classes.now in
    let number = c.in-Class.component in
    let list = c.index_mut.result.now in
    let named : is_numbered (class_named c.args.body.now) number ≡ true = rw c.in-Class.is (eq-eqb number number refl) in
    let roomy = c.requires.roomy number named in
    let room : room_in lists.items number ≡ vec_capacity list - vec_len list = value_at-read
    (λ v. vec_capacity v - vec_len v) 0 lists.items number list (room_within lists.items number roomy) (rw c.from.ensures at c.index_mut.ensures.value) in
    omega (arith, room, roomy)

pub put_day-requires-clause-ordered : goal.put_day-requires-clause-ordered
put_day-requires-clause-ordered c =
    let lists = c.args.classes.now in
    let number = c.in-Class.component in
    let list = c.index_mut.result.now in
    let named : is_numbered (class_named c.args.body.now) number ≡ true = rw c.in-Class.is (eq-eqb number number refl) in
    let here : items_in lists.items number ≡ list.items = value_at-read
    (λ v. v.items) [] lists.items number list (room_within lists.items number (c.requires.roomy number named)) (rw c.from.ensures at c.index_mut.ensures.value) in
    subst (Ascends day_first) here (c.requires.ordered number)

pub returns-in-Class : goal.returns-in-Class
returns-in-Class c =
    let lists = c.args.classes.now in
    let number = c.in-Class.component in
    let list = c.index_mut.result.now in
    let named : is_numbered (class_named c.args.body.now) number ≡ true = rw c.in-Class.is (eq-eqb number number refl) in
    let put = puts_day lists.items number (c.args.key.now, c.in-Class.class) list c.put_day.new.classes
    (room_within lists.items number (c.requires.roomy number named)) (rw c.from.ensures at c.index_mut.ensures.value) c.put_day.ensures.value c.put_day.ensures.room in
    rw (c.from.ensures, c.in-Class.is) (record { listed = λ n. (put n).0 ∙ ap (λ o. put_day_if_any o (items_in lists.items n)) (entered_is number n (c.args.key.now, c.in-Class.class)); room = λ n. (put n).1 })
