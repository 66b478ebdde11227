use Rattle.std.proofs.Common.{Some, subst, ap, ◌∙◌, arith}
use Rattle.ldar_law.specs.ClassInForce.{HasEntered}
use Rattle.ldar_law.proofs.ClassLemmas.{last_of_front, none_in_front}
use Rattle.ldar_law.proofs.class_in_force.last_entered.Goals as goal

pub returns-then-count-eq0 : goal.returns-then-count-eq0
returns-then-count-eq0 c =
    let a = c.args in
    record { value = none_in_front a.day a.classes.now (subst (HasEntered a.day a.classes.now) c.if-count-eq0.true c.entered_by-count.ensures.value) }

pub returns : goal.returns
returns c =
    let a = c.args in
    let count = c.entered_by-count in
    record {
      value = ap Some c.index-classes-count.is
          ∙ last_of_front a.day a.classes.now count.result c.index-classes-count.result (omega arith) count.ensures.within count.ensures.value;
    }
