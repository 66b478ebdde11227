use Rattle.std.proofs.Common.{length, ap, sym, ◌∙◌, arith}
use Rattle.fact_kinds.specs.Facts.{facts_of}
use Rattle.fact_store.specs.Coming.{stored}
use Rattle.office_views.proofs.SoundLemmas.{few_adopted, facts_count, count_is, adopted_is}
use Rattle.office_views.proofs.views.Views.counts.Goals as goal

pub overflow_cast-result : goal.overflow_cast-result
overflow_cast-result c =
    let inside = c.self.inside in
    let sound = c.self.invariant.0 in
    omega (arith, few_adopted sound.0 (stored inside.store) inside.register inside.headers.items inside.adopted sound.1, sound.1.few)

pub returns-clause-batches : goal.returns-clause-batches
returns-clause-batches c =
    let inside = c.self.inside in
    let sound = c.self.invariant.0 in
    sym (ap length (adopted_is sound.0 (stored inside.store) inside.register inside.headers.items inside.adopted sound.1 c.args.self.now c.self.view_is)
    ∙ count_is sound.0 (stored inside.store) inside.register inside.headers.items inside.adopted sound.1)

pub returns-clause-facts : goal.returns-clause-facts
returns-clause-facts c =
    let inside = c.self.inside in
    let sound = c.self.invariant.0 in
    c.self.invariant.1 ∙ facts_count sound.0 (stored inside.store) inside.register inside.headers.items inside.adopted sound.1
    ∙ ap (λ bs. length (facts_of bs))
    (sym (adopted_is sound.0 (stored inside.store) inside.register inside.headers.items inside.adopted sound.1 c.args.self.now c.self.view_is))
