use Rattle.std.proofs.Common.{ap, sym, ◌∙◌}
use Rattle.fact_kinds.specs.Facts.{facts_of}
use Rattle.fact_store.specs.Coming.{stored}
use Rattle.ldar_law.specs.Slices.{register_facts}
use Rattle.office_views.proofs.SoundLemmas.{register_is, adopted_is}
use Rattle.office_views.proofs.views.Views.register.Goals as goal

pub returns : goal.returns
returns c =
    let inside = c.self.inside in
    let sound = c.self.invariant.0 in
    record {
      value = register_is sound.0 (stored inside.store) inside.register inside.headers.items inside.adopted sound.1
          ∙ ap (λ bs. register_facts (facts_of bs))
          (sym (adopted_is sound.0 (stored inside.store) inside.register inside.headers.items inside.adopted sound.1 c.args.self.now c.self.view_is));
    }
