use Rattle.std.proofs.Common.{◌++◌, sym, ap, ◌∙◌, arith}
use Rattle.std.proofs.lemmas.List.{append-nil, take_all}
use Rattle.ldar_law.specs.Duties.{duties_of}
use Rattle.ldar_law.specs.Units.{due_list}
use Rattle.unit_summaries.specs.Known.{IsInOrder, all_in_law}
use Rattle.unit_summaries.proofs.ListLemmas.{all_item}
use Rattle.office_views.proofs.UnitLemmas.{due_list-append, list_more}
use Rattle.office_views.proofs.due.duties_at.Goals as goal

pub loop-component-preserved : goal.loop-component-preserved
loop-component-preserved c =
    let a = c.args in
    let l = c.loop-component in
    let component = c.component-item.result in
    λ of.
    list_more of a.components.now l.component-index component c.loop-component-test.true c.component-item.is
    (due_list a.startup a.day a.skipped.now) (due_list-append a.startup a.day a.skipped.now) l.all.items c.add_duties.new.all.items (l.invariant of)
    (c.in_ok-add_duties.ensures.put
    ∙ ap (λ ds. l.all.items ++ ds)
    (sym (append-nil (duties_of component.item component.classes.now a.startup component.events.now a.skipped.now a.day))))

pub returns : goal.returns
returns c =
    let a = c.args in
    let l = c.loop-component in
    record {
      value = λ of. l.invariant of
          ∙ ap (λ cs. due_list a.startup a.day a.skipped.now (all_in_law of cs)) (take_all l.component-index a.components.now (omega arith));
    }

pub add_duties-requires-clause-ordered : goal.add_duties-requires-clause-ordered
add_duties-requires-clause-ordered c =
    let a = c.args in
    all_item IsInOrder a.components.now c.loop-component.component-index c.component-item.result c.requires.ordered c.loop-component-test.true
    c.component-item.is
