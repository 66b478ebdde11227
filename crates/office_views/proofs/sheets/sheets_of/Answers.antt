use Rattle.std.proofs.Common.{[], ◌∷◌, ◌++◌, map, ap, ◌∙◌, arith}
use Rattle.std.proofs.lemmas.List.{map-append, take_all}
use Rattle.ldar_law.specs.Shown.{sheet_of}
use Rattle.unit_summaries.specs.Known.{IsInOrder, all_in_law}
use Rattle.unit_summaries.proofs.ListLemmas.{all_item}
use Rattle.office_views.proofs.UnitLemmas.{list_more}
use Rattle.office_views.proofs.sheets.sheets_of.Goals as goal

pub loop-component-preserved : goal.loop-component-preserved
loop-component-preserved c =
    let a = c.args in
    let l = c.loop-component in
    list_more a.stops.now a.components.now l.component-index c.component-item.result c.loop-component-test.true c.component-item.is
    (map sheet_of) (map-append sheet_of) l.sheets.items c.push.new.self.items l.invariant
    (c.in_ok-push.ensures.items ∙ ap (λ sheet. l.sheets.items ++ sheet ∷ []) c.in_ok-sheet_of.ensures.value)

pub returns : goal.returns
returns c =
    let a = c.args in
    let l = c.loop-component in
    record {
      value = l.invariant ∙ ap (λ cs. map sheet_of (all_in_law a.stops.now cs)) (take_all l.component-index a.components.now (omega arith));
    }

pub sheet_of-requires : goal.sheet_of-requires
sheet_of-requires c =
    let a = c.args in
    record {
      ordered = all_item IsInOrder a.components.now c.loop-component.component-index c.component-item.result c.requires.ordered c.loop-component-test.true
          c.component-item.is;
    }
