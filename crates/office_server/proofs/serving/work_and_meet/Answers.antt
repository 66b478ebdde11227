use Rattle.std.proofs.Common.{sym, subst, ap, ◌∙◌}
use Rattle.std.specs.List.{AllByRecursion, list_all}
use Rattle.office_server.specs.Fronts.{DeskState, EachWorked}
use Rattle.office_server.specs.Together.{HasOwn, Together}
use Rattle.office_server.proofs.Services.{all_own, served, each_closed, one_failed, whole_written}
use Rattle.office_server.proofs.serving.work_and_meet.Goals as goal

pub meet_all-requires-clause-own : goal.meet_all-requires-clause-own
meet_all-requires-clause-own g c =
    let left = g.L.Front.left in
    let done = g.L.Front.done in
    let faults = g.L.Front.faults in
    let each = subst (λ ds. EachWorked left done faults c.args.fronts.now c.work_all.new.fronts ds c.work_all.new.desks) (c.as_mut_slice.ensures.value ∙ c.requires.desks) c.work_all.ensures.each in
    let same = whole_written _ c.work_all.new.desks _ (sym (c.work_all.auto.desks ∙ c.as_mut_slice.ensures.len)) in
    subst (AllByRecursion (HasOwn c.args.room.now)) (sym same) (all_own left done faults c.args.room.now _ _ _ _ each)

pub returns-clause-served : goal.returns-clause-served
returns-clause-served g c =
    let left = g.L.Front.left in
    let done = g.L.Front.done in
    let faults = g.L.Front.faults in
    let each = subst (λ ds. EachWorked left done faults c.args.fronts.now c.work_all.new.fronts ds c.work_all.new.desks) (c.as_mut_slice.ensures.value ∙ c.requires.desks) c.work_all.ensures.each in
    let same = whole_written _ c.work_all.new.desks _ (sym (c.work_all.auto.desks ∙ c.as_mut_slice.ensures.len)) in
    let together = subst (Together c.args.room.now c.meet_all.result) same c.meet_all.ensures.together in
    served left done faults c.args.room.now _ _ _ _ _ each together

pub returns-clause-closed : goal.returns-clause-closed
returns-clause-closed g c is =
    let same = whole_written _ c.work_all.new.desks _ (sym (c.work_all.auto.desks ∙ c.as_mut_slice.ensures.len)) in
    let all = ap (list_all (λ (d : DeskState). d.closed)) (sym (c.as_slice.ensures.value ∙ same)) ∙ (sym c.all_closed-closed.ensures.value ∙ is) in
    each_closed g.L.Front.left g.L.Front.done g.L.Front.faults _ _ _ _ c.work_all.ensures.each all

pub returns-clause-front_fault : goal.returns-clause-front_fault
returns-clause-front_fault g c is =
    let same = whole_written _ c.work_all.new.desks _ (sym (c.work_all.auto.desks ∙ c.as_mut_slice.ensures.len)) in
    let all = ap (list_all (λ (d : DeskState). d.closed)) (sym (c.as_slice.ensures.value ∙ same)) ∙ (sym c.all_closed-closed.ensures.value ∙ is) in
    one_failed g.L.Front.left g.L.Front.done g.L.Front.faults _ _ _ _ c.work_all.ensures.each all
