use Rattle.std.proofs.Common.{◌≡◌, ◌+◌, length, refl, ◌∙◌, ap, arith}
use Rattle.batch_positions.proofs.IndexLemmas.{pushed_on, pushed_late, room_goes_on, room_comes_late, no_more_late}
use Rattle.batch_positions.proofs.positions.Positions.push.Goals as goal

pub invariant_of-self : goal.invariant_of-self
invariant_of-self c =
    let entries = c.self.inside.entries.items in
    let e = c.next_in_run-entry.result in
    let new = rw (← c.self.view_is) at c.requires.is_new in
    let some = rw (← c.self.view_is) at c.requires.roomy in
    let place : c.len.result + 1 ≡ length entries + 1 = ap (λ n. n + 1) (c.len.ensures ∙ c.self.inside.entries.ok.0) in
    let here = rw c.deref.ensures.value at c.head_of-head.ensures.value in
    let above = rw c.deref-2.ensures.value at (c.is_above.ensures.above c.if-is_above.true) in (
      pushed_on entries c.push_reserved.new.self.items c.self.inside.heads.items c.set_head.new.heads.items c.self.inside.late.lates c.args.identity e
          c.head_of-head.result (c.len.result + 1) c.self.invariant.0
          c.next_in_run-entry.ensures.identity c.next_in_run-entry.ensures.in_run c.next_in_run-entry.ensures.earlier here above new
          c.push_reserved.ensures.items place c.set_head.ensures.value,
      omega (arith, c.push_reserved.ensures.len, c.push_reserved.ensures.capacity, c.self.invariant.1, some),
      omega (arith, c.push_reserved.ensures.len, c.self.invariant.2, some),
      rw c.push_reserved.ensures.items (room_goes_on entries c.self.inside.room c.self.inside.fresh c.self.inside.late.room e c.self.invariant.3
          c.next_in_run-entry.ensures.in_run some),
    )

pub push-requires-clause-fits : goal.push-requires-clause-fits
push-requires-clause-fits c =
    let some = rw (← c.self.view_is) at c.requires.roomy in
    let few = no_more_late c.self.inside.entries.items c.self.inside.heads.items c.self.inside.late.lates c.self.invariant.0 in
    omega (arith, c.self.inside.entries.ok.0, c.self.invariant.2)

pub invariant_of-self-2 : goal.invariant_of-self-2
invariant_of-self-2 c =
    let entries = c.self.inside.entries.items in
    let new = rw (← c.self.view_is) at c.requires.is_new in
    let some = rw (← c.self.view_is) at c.requires.roomy in
    let place : c.len.result + 1 ≡ length entries + 1 = ap (λ n. n + 1) (c.len.ensures ∙ c.self.inside.entries.ok.0) in
    let items = rw c.late.ensures.value at c.push_reserved-2.ensures.items in (
      pushed_late entries c.push_reserved-2.new.self.items c.self.inside.heads.items c.self.inside.late.lates c.push.new.self.lates c.args.identity
          (c.len.result + 1) c.self.invariant.0
          new items place c.push.ensures.lates,
      omega (arith, c.push_reserved-2.ensures.len, c.push_reserved-2.ensures.capacity, c.self.invariant.1, some),
      omega (arith, c.push_reserved-2.ensures.len, c.self.invariant.2, some),
      rw items (room_comes_late entries c.self.inside.room c.self.inside.fresh c.self.inside.late.room c.push.new.self.room _ c.self.invariant.3 refl some
          c.push.ensures.room),
    )
