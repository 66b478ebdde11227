use Rattle.std.proofs.Common.{arith}
use Rattle.ldar_law.proofs.class_in_force.ClassInForce.moved_to.Goals as goal

pub entered_from-count-requires-clause-front : goal.entered_from-count-requires-clause-front
entered_from-count-requires-clause-front c = λ k e low. c.requires.value.front c.args.day (omega arith) (omega arith) k e low

pub returns-then-self-number : goal.returns-then-self-number
returns-then-self-number c =
    let a = c.args in
    let within = c.after.ensures.within a.day (omega arith) c.entered_from-count.ensures.value in
    record {
      today = c.after.ensures.value.class a.day within.0 within.1;
      within = within;
      value = c.after.ensures.value;
    }
