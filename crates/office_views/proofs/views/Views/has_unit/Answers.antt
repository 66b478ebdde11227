use Rattle.std.proofs.Common.{ap, ◌∙◌}
use Rattle.std.specs.Prelude.{is_some}
use Rattle.fact_store.specs.Coming.{stored}
use Rattle.history_laws.specs.DayLaws.{up_to}
use Rattle.ldar_law.specs.Equipment.{unit_entry_of}
use Rattle.office_views.proofs.KeptLemmas.{facts_of_adopted, unit_known_is}
use Rattle.office_views.proofs.views.Views.has_unit.Goals as goal

pub returns : goal.returns
returns c =
    let inside = c.self.inside in
    let sound = c.self.invariant.0 in
    let a = c.args in
    record {
      value = c.is_some.ensures
          ∙ ap is_some (c.unit_on.ensures.value ∙ unit_known_is sound.0 (stored inside.store) inside.register inside.headers.items inside.adopted sound.1 a.unit a.day)
          ∙ ap (λ es. is_some (unit_entry_of a.unit (up_to a.day es)))
          (facts_of_adopted sound.0 (stored inside.store) inside.register inside.headers.items inside.adopted sound.1 a.self.now c.self.view_is);
    }
