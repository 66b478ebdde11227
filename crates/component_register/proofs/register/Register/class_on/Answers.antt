use Rattle.std.proofs.Common.{◌≡◌, None, Some, sym, ap, ◌∙◌, subst}
use Rattle.list_words.specs.Order.{Ascends}
use Rattle.fact_store.specs.Kept.{facts_in}
use Rattle.ldar_law.specs.RegisterLaws.{class_first}
use Rattle.ldar_law.specs.Force as force
use Rattle.component_register.proofs.HoldLemmas.{classes_ascend, class_held_on, no_class_held}
use Rattle.component_register.proofs.register.Register.class_on.Goals as goal

pub class_on-requires : goal.class_on-requires
class_on-requires c =
    let inside = c.self.inside in
    record {
      ordered = subst (Ascends class_first) (sym c.list_of.ensures.value)
          (classes_ascend inside.store inside.slots.items inside.units.items inside.classes.items inside.rosters.items c.self.invariant c.args.component);
    }

pub returns-in_err-item : goal.returns-in_err-item
returns-in_err-item c =
    let inside = c.self.inside in
    let is = rw c.deref.ensures.value at c.row_of.ensures.value in
    let none : c.row_of.result.entered ≡ None = c.in_err-item.was in
    record {
      value = subst (λ kept. c.from_residual.result ≡ force.class_in_force c.args.component (facts_in kept) c.args.day) c.self.view_is
          (c.from_residual.ensures ∙ sym (no_class_held inside.store inside.slots.items inside.units.items inside.classes.items inside.rosters.items
          c.self.invariant c.args.component c.args.day c.row_of.result is none));
    }

pub returns : goal.returns
returns c =
    let inside = c.self.inside in
    let is = rw c.deref.ensures.value at c.row_of.ensures.value in
    let some : c.row_of.result.entered ≡ Some c.in_ok-item.item = c.in_ok-item.was in
    let held = class_held_on inside.store inside.slots.items inside.units.items inside.classes.items inside.rosters.items c.self.invariant c.args.component
    c.args.day c.row_of.result is c.in_ok-item.item some in
    record {
      value = subst (λ kept. Some c.class_on.result ≡ force.class_in_force c.args.component (facts_in kept) c.args.day) c.self.view_is
          (ap Some (c.class_on.ensures.value ∙ ap (λ classes. force.class_on c.in_ok-item.item classes c.args.day) c.list_of.ensures.value) ∙ sym held);
    }
