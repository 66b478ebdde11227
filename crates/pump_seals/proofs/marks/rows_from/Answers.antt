use Rattle.std.proofs.Common.{◌≡◌, true, sym, ap, ◌∙◌, subst, nat_lt}
use Rattle.std.specs.List.{filter_map}
use Rattle.pump_seals.specs.Moments.{MomentsRise, row_before}
use Rattle.pump_seals.specs.Signs as spec
use Rattle.pump_seals.proofs.MomentLemmas.{none_below}
use Rattle.pump_seals.proofs.RisingLists.{given_behind, rise_drop, to_end}
use Rattle.pump_seals.proofs.marks.rows_from.Goals as goal

pub returns-clause-value : goal.returns-clause-value
returns-clause-value c day =
    let rows = c.args.rows.now in
    let component = c.args.component in
    ap (filter_map (spec.mark_if component day)) (to_end rows c.count_below.result)
    ∙ given_behind (spec.mark_if component day) (λ r. nat_lt r.component c.from.result)
    (λ r e. none_below component day r (subst (λ n. nat_lt r.component n ≡ true) c.from.ensures e)) rows c.count_below.result
    c.count_below.ensures.value c.count_below.ensures.within

pub returns-clause-ordered : goal.returns-clause-ordered
returns-clause-ordered c =
    subst (MomentsRise row_before) (sym (to_end c.args.rows.now c.count_below.result))
    (rise_drop row_before c.count_below.result c.args.rows.now c.requires.ordered)
