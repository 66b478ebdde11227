use Rattle.std.proofs.Common.{true, false, refl, sym, ap, ◌∙◌}
use Rattle.ldar_law.specs.Standing.{is_difficult_designated}
use Rattle.batch_rules.proofs.SeenLemmas.{none_adds, item_shares}
use Rattle.batch_rules.proofs.valves.share_of.Goals as goal

pub returns-in_default-clause-value : goal.returns-in_default-clause-value
returns-in_default-clause-value c =
    let a = c.args in
    sym (none_adds a.register.now.arrived a.unit a.day a.component (sym c.component.ensures.value ∙ c.in_default.is))

pub returns-then-not-is_valve_of-clause-value : goal.returns-then-not-is_valve_of-clause-value
returns-then-not-is_valve_of-clause-value c =
    let a = c.args in
    sym (item_shares a.register.now.arrived a.unit a.day a.component c.in-Some.item false _ (sym c.component.ensures.value ∙ c.in-Some.is)
    (sym c.is_valve_of.ensures.value ∙ c.if-not-is_valve_of.true) refl)

pub returns-then-is_difficult_designated-clause-value : goal.returns-then-is_difficult_designated-clause-value
returns-then-is_difficult_designated-clause-value c =
    let a = c.args in
    sym (item_shares a.register.now.arrived a.unit a.day a.component c.in-Some.item true true (sym c.component.ensures.value ∙ c.in-Some.is)
    (sym c.is_valve_of.ensures.value ∙ c.if-not-is_valve_of.false)
    (ap (λ k. is_difficult_designated k.designation) (sym c.class_on.ensures.value) ∙ sym c.is_difficult_designated.ensures.value
    ∙ c.if-is_difficult_designated.true))

pub returns-clause-value : goal.returns-clause-value
returns-clause-value c =
    let a = c.args in
    sym (item_shares a.register.now.arrived a.unit a.day a.component c.in-Some.item true false (sym c.component.ensures.value ∙ c.in-Some.is)
    (sym c.is_valve_of.ensures.value ∙ c.if-not-is_valve_of.false)
    (ap (λ k. is_difficult_designated k.designation) (sym c.class_on.ensures.value) ∙ sym c.is_difficult_designated.ensures.value
    ∙ c.if-is_difficult_designated.false))
