use Rattle.std.proofs.Common.{refl, sym}
use Rattle.batch_positions.proofs.IndexLemmas.{position_found, late_position}
use Rattle.batch_positions.proofs.positions.Positions.position.Goals as goal

pub returns-in-Some : goal.returns-in-Some
returns-in-Some c =
    let found = rw c.deref-2.ensures.value at c.in-Some.ensures.found in
    record {
      value = rw (← c.self.view_is) (sym (position_found c.self.inside.entries.items c.args.identity c.in-Some.position found.0
          c.self.invariant.0.apart found.1 found.2));
    }

pub returns-in-None : goal.returns-in-None
returns-in-None c =
    let no_run = rw c.deref-2.ensures.value at (c.in-None.ensures.none refl) in
    record {
      value = rw (← c.self.view_is) (late_position c.self.inside.entries.items c.self.inside.heads.items c.self.inside.late.lates c.args.identity
          c.find.result c.self.invariant.0
          no_run (λ position is. rw is at c.find.ensures.found) (λ is. c.find.ensures.none (rw is refl)));
    }
