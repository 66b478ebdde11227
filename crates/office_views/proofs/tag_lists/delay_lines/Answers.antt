use Rattle.std.proofs.Common.{ap, ◌∙◌, arith}
use Rattle.std.proofs.lemmas.List.{take_all}
use Rattle.ldar_law.specs.Units.{delay_list}
use Rattle.unit_summaries.specs.Known.{IsInOrder, all_in_law}
use Rattle.unit_summaries.proofs.ListLemmas.{all_item}
use Rattle.office_views.proofs.UnitLemmas.{delay_list-append, list_more}
use Rattle.office_views.proofs.tag_lists.delay_lines.Goals as goal

pub loop-component-preserved : goal.loop-component-preserved
loop-component-preserved c =
    let a = c.args in
    let l = c.loop-component in
    list_more a.stops.now a.components.now l.component-index c.component-item.result c.loop-component-test.true c.component-item.is
    delay_list delay_list-append l.lines.items c.add_lines.new.lines.items l.invariant c.in_ok-add_lines.ensures.put

pub returns : goal.returns
returns c =
    let a = c.args in
    let l = c.loop-component in
    record {
      value = l.invariant ∙ ap (λ cs. delay_list (all_in_law a.stops.now cs)) (take_all l.component-index a.components.now (omega arith));
    }

pub add_lines-requires : goal.add_lines-requires
add_lines-requires c =
    let a = c.args in
    record {
      ordered = all_item IsInOrder a.components.now c.loop-component.component-index c.component-item.result c.requires.ordered c.loop-component-test.true
          c.component-item.is;
    }
