use Rattle.std.proofs.Common.{subst, arith}
use Rattle.ldar_law.specs.ClassInForce.{HasEntered}
use Rattle.ldar_law.proofs.ClassLemmas.{class_of_front, class_of_none}
use Rattle.ldar_law.proofs.equipment.Equipment.class_after.Goals as goal

pub returns-then-count-eq0 : goal.returns-then-count-eq0
returns-then-count-eq0 c =
    let a = c.args in
    record { value = λ day entered. class_of_none a.self.now a.classes.now day (subst (HasEntered day a.classes.now) c.if-count-eq0.true entered) }

pub returns : goal.returns
returns c =
    let a = c.args in
    record { value = λ day entered. class_of_front a.self.now a.classes.now day a.count _ (omega arith) c.requires.within entered }
