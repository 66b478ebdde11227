use Rattle.std.proofs.Common.{◌≡◌, Some, None, sym, ap, ◌∙◌}
use Rattle.fact_store.specs.Kept.{facts_in}
use Rattle.ldar_law.specs.Equipment.{equipment_of}
use Rattle.ldar_law.proofs.SliceLemmas.{register_facts_suffice}
use Rattle.unit_summaries.proofs.renewal.renew_member.Goals as goal

pub renew_component-requires-clause-entered : goal.renew_component-requires-clause-entered
renew_component-requires-clause-entered g c =
    let facts = facts_in c.args.lists.now.store.now in
    sym (c.in-Some.ensures.value ∙ ap (equipment_of c.args.number) c.requires.register ∙ (register_facts_suffice c.args.number facts).0.equipment)

pub renew_component-requires-clause-named : goal.renew_component-requires-clause-named
renew_component-requires-clause-named g c =
    let facts = facts_in c.args.lists.now.store.now in
    let member = c.requires.member in
    let both : Some c.in-Some.item ≡ Some member.0 =
    c.in-Some.ensures.value ∙ ap (equipment_of c.args.number) c.requires.register ∙ (register_facts_suffice c.args.number facts).0.equipment ∙ member.1 in
    let same : c.in-Some.item ≡ member.0 = cc in
    ap (λ item. item.component) same ∙ member.2

pub returns-in-None-clause-fresh : goal.returns-in-None-clause-fresh
returns-in-None-clause-fresh g c =
    let facts = facts_in c.args.lists.now.store.now in
    let member = c.requires.member in
    let never : None ≡ Some member.0 =
    c.in-None.ensures.value ∙ ap (equipment_of c.args.number) c.requires.register ∙ (register_facts_suffice c.args.number facts).0.equipment ∙ member.1 in
    absurd cc
