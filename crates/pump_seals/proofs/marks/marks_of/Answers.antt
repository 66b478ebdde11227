use Rattle.std.proofs.Common.{◌≡◌, sym, ◌∙◌, subst}
use Rattle.std.specs.List.{filter_map}
use Rattle.pump_seals.specs.Moments.{MomentsRise, mark_before}
use Rattle.pump_seals.specs.Signs as spec
use Rattle.pump_seals.proofs.MomentLemmas.{marks_rise}
use Rattle.pump_seals.proofs.RisingLists.{if_ok}
use Rattle.pump_seals.proofs.marks.marks_of.Goals as goal

pub returns-clause-ordered : goal.returns-clause-ordered
returns-clause-ordered c =
    let component = c.args.component in
    let day = c.args.day in
    if_ok c.marks_among.result
    (λ marks. marks.items ≡ filter_map (spec.mark_if component day) c.rows_to-rows.result.now)
    (λ marks. MomentsRise mark_before marks.items)
    (λ marks is. subst (MomentsRise mark_before) (sym (is ∙ c.rows_to-rows.ensures.value day ∙ c.rows_from.ensures.value day))
    (marks_rise component day c.args.rows.now c.requires.ordered))
    c.marks_among.ensures.value
