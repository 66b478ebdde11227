use Rattle.std.proofs.Common.{◌≡◌, None, Some, sym, ap, ◌∙◌, subst}
use Rattle.std.specs.Option.{option_map}
use Rattle.fact_store.specs.Kept.{facts_in}
use Rattle.ldar_law.specs.Equipment as law
use Rattle.ldar_law.proofs.BatchLemmas.{with_retired}
use Rattle.component_register.proofs.HoldLemmas.{component_held}
use Rattle.component_register.proofs.register.Register.component.Goals as goal

pub returns-in_err-item : goal.returns-in_err-item
returns-in_err-item c =
    let inside = c.self.inside in
    let slot = c.row_of-slot.result in
    let is = rw c.deref.ensures.value at c.row_of-slot.ensures.value in
    let held = component_held inside.store inside.slots.items inside.units.items inside.classes.items inside.rosters.items c.self.invariant c.args.component
    slot is in
    let none : slot.entered ≡ None = c.in_err-item.was in
    record {
      value = subst (λ kept. c.from_residual.result ≡ law.equipment_of c.args.component (facts_in kept)) c.self.view_is
          (c.from_residual.ensures ∙ sym (held ∙ ap (option_map (with_retired slot.retired)) none));
    }

pub returns : goal.returns
returns c =
    let inside = c.self.inside in
    let slot = c.row_of-slot.result in
    let is = rw c.deref.ensures.value at c.row_of-slot.ensures.value in
    let held = component_held inside.store inside.slots.items inside.units.items inside.classes.items inside.rosters.items c.self.invariant c.args.component
    slot is in
    let some : slot.entered ≡ Some c.in_ok-item.item = c.in_ok-item.was in
    record {
      value = subst (λ kept. Some (with_retired slot.retired c.in_ok-item.item) ≡ law.equipment_of c.args.component (facts_in kept)) c.self.view_is
          (sym (held ∙ ap (option_map (with_retired slot.retired)) some));
    }
