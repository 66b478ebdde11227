use Rattle.std.proofs.Common.{◌≡◌, get_or, inl, inr, arith}
use Rattle.std.proofs.lemmas.Bool.{cases_lt, lt-leb}
use Rattle.ldar_law.specs.ClassInForce.{HasEntered}
use Rattle.ldar_law.proofs.ClassLemmas.{entered_in_front, entered_to}
use Rattle.ldar_law.specs.Percent.{judging_day}
use Rattle.skip_periods.proofs.counting.Counting.move_to.Goals as goal

pub after-requires-clause-within : goal.after-requires-clause-within
after-requires-clause-within c = omega (arith, (c.loop-self.invariant.after.next c.args.quarter (omega arith) (omega arith)).0)

pub loop-self-preserved : goal.loop-self-preserved
loop-self-preserved c =
    let moved = c.loop-self.self in
    let from = c.loop-self.invariant in
    record {
      after = c.after.ensures.value;
      front = λ k e entered.
          elim (cases_lt k moved.entered) [
            | inl before ↦ from.front k e before
            | inr last ↦
                let same : k ≡ moved.entered = omega (arith, entered, last, c.after.ensures.entered) in
                rw same ((from.after.next c.args.quarter (omega arith) (omega arith)).1 e)
          ];
    }

pub returns-clause-counted : goal.returns-clause-counted
returns-clause-counted c =
    let a = c.args in
    let from = c.loop-self.invariant in
    let moved = c.loop-self.self in
    let judged = judging_day a.startup a.quarter a.day in
    let entered : HasEntered judged a.classes.now moved.entered =
    entered_to a.classes.now moved.entered judged (entered_in_front judged a.classes.now c.requires.ordered) from.front
    (λ e within. lt-leb (get_or a.classes.now moved.entered e).0.day judged (from.after.before a.quarter e (omega arith) within)) in
    from.after.counts judged (omega arith) entered
