use Rattle.std.proofs.Common.{Some, None, ap, sym, ◌∙◌}
use Rattle.fact_store.specs.Coming.{stored}
use Rattle.fact_store.specs.Kept.{facts_in}
use Rattle.history_laws.specs.DayLaws.{up_to}
use Rattle.ldar_law.specs.Equipment.{equipment_of}
use Rattle.office_views.proofs.HistoryLemmas.{equipment_on}
use Rattle.office_views.proofs.KeptLemmas.{component_of_register, facts_of_adopted, stored_ascend}
use Rattle.office_views.proofs.views.Views.equipment.Goals as goal

pub returns-in-Some : goal.returns-in-Some
returns-in-Some c =
    let inside = c.self.inside in
    let sound = c.self.invariant.0 in
    let a = c.args in
    let up = stored_ascend sound.0 (stored inside.store) inside.register inside.headers.items inside.adopted sound.1 in
    let entered = sym (component_of_register sound.0 (stored inside.store) inside.register inside.headers.items inside.adopted sound.1 a.component) ∙ sym
    c.in-Some.ensures.value in
    record {
      value = c.if_begun.ensures.value ∙ equipment_on a.day a.component (facts_in (stored inside.store)) (Some c.in-Some.item) up entered
          ∙ ap (λ es. equipment_of a.component (up_to a.day es))
          (facts_of_adopted sound.0 (stored inside.store) inside.register inside.headers.items inside.adopted sound.1 a.self.now c.self.view_is);
    }

pub returns-in-None : goal.returns-in-None
returns-in-None c =
    let inside = c.self.inside in
    let sound = c.self.invariant.0 in
    let a = c.args in
    let up = stored_ascend sound.0 (stored inside.store) inside.register inside.headers.items inside.adopted sound.1 in
    let entered = sym (component_of_register sound.0 (stored inside.store) inside.register inside.headers.items inside.adopted sound.1 a.component) ∙ sym
    c.in-None.ensures.value in
    record {
      value = equipment_on a.day a.component (facts_in (stored inside.store)) None up entered
          ∙ ap (λ es. equipment_of a.component (up_to a.day es))
          (facts_of_adopted sound.0 (stored inside.store) inside.register inside.headers.items inside.adopted sound.1 a.self.now c.self.view_is);
    }
