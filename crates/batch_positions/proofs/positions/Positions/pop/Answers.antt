use Rattle.std.proofs.Common.{◌≡◌, ◌+◌, cond, arith}
use Rattle.batch_positions.proofs.IndexLemmas.{goes_back, late_goes_back, no_more_late, room_goes_back}
use Rattle.batch_positions.proofs.positions.Positions.pop.Goals as goal

pub pop-requires-then-entry-clause-some : goal.pop-requires-then-entry-clause-some
pop-requires-then-entry-clause-some c =
    (late_goes_back c.pop.new.self.items c.self.inside.heads.items c.self.inside.late.lates c.in-Some.entry (rw c.in-Some.ensures.items at c.self.invariant.0)
    c.if-entry.true).1

pub pop-requires-then-entry-clause-fits : goal.pop-requires-then-entry-clause-fits
pop-requires-then-entry-clause-fits c =
    let few = no_more_late c.self.inside.entries.items c.self.inside.heads.items c.self.inside.late.lates c.self.invariant.0 in
    omega (arith, c.self.inside.entries.ok.0, c.self.invariant.2)

pub invariant_of-self-then-entry : goal.invariant_of-self-then-entry
invariant_of-self-then-entry c =
    let e = c.in-Some.entry in
    let gives : c.pop-then-entry.new.self.room ≡ c.self.inside.late.room + cond e.late 1 0 = rw c.if-entry.true c.pop-then-entry.ensures.room in (
      rw c.pop-then-entry.ensures.lates (late_goes_back c.pop.new.self.items c.self.inside.heads.items c.self.inside.late.lates e
          (rw c.in-Some.ensures.items at c.self.invariant.0) c.if-entry.true).0,
      omega (arith, c.in-Some.ensures.len, c.in-Some.ensures.capacity, c.self.invariant.1, c.min-again.ensures),
      omega (arith, c.in-Some.ensures.len, c.self.invariant.2, c.min-again.ensures),
      rw c.min-again.ensures (room_goes_back c.pop.new.self.items c.self.inside.room c.self.inside.fresh c.self.inside.late.room
          c.pop-then-entry.new.self.room e
          (rw c.in-Some.ensures.items at c.self.invariant.3) gives),
    )

pub invariant_of-self-2 : goal.invariant_of-self-2
invariant_of-self-2 c =
    let e = c.in-Some.entry in
    let gives : c.self.inside.late.room ≡ c.self.inside.late.room + cond e.late 1 0 = rw c.if-entry.false (omega arith) in (
      rw c.set_head.ensures.value (goes_back c.pop.new.self.items c.self.inside.heads.items c.self.inside.late.lates e
          (rw c.in-Some.ensures.items at c.self.invariant.0) c.if-entry.false),
      omega (arith, c.in-Some.ensures.len, c.in-Some.ensures.capacity, c.self.invariant.1, c.min-again.ensures),
      omega (arith, c.in-Some.ensures.len, c.self.invariant.2, c.min-again.ensures),
      rw c.min-again.ensures (room_goes_back c.pop.new.self.items c.self.inside.room c.self.inside.fresh c.self.inside.late.room c.self.inside.late.room e
          (rw c.in-Some.ensures.items at c.self.invariant.3) gives),
    )
