use Rattle.std.proofs.Common.{◌≡◌, ◌+◌, take, drop, sym, ap, ◌∙◌, subst}
use Rattle.std.proofs.lemmas.List.{drop-drop, drop-take}
use Rattle.fact_store.proofs.arrivals.Arrivals.keep_room.Goals as goal

pub returns : goal.returns
returns c =
    let inside = c.self.inside in
    let a = c.args in
    let room = inside.reserved.items in
    let kept = drop-take (inside.used + a.passed) a.count room ∙ ap (take a.count) (sym (drop-drop a.passed inside.used room)) in
    rw c.truncate.ensures.items
    (record {
      value = subst (λ s. record { arrived = inside.arrived.items; spare = drop (inside.used + a.passed) (take (inside.used + a.passed + a.count) room) }
          ≡ record { arrived = s.arrived; spare = take a.count (drop a.passed s.spare) }) c.self.view_is
          (ap (λ spare. record { arrived = inside.arrived.items; spare = spare }) kept);
    })
