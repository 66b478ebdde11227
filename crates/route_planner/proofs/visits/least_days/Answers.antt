use Rattle.std.proofs.Common.{rules, ◌≡◌, ◌+◌, ◌<◌, Some, None, true, not, [], ◌∷◌, ◌++◌, length, get_or, set, take, sym, ap, subst, ◌∙◌, arith}
use Rattle.std.specs.Prelude.{is_none}
use Rattle.std.proofs.lemmas.List.{take_more}
use Rattle.route_planner.specs.Visits.{visit_of, visits_asked, earlier_of, AreEarliestDays}
use Rattle.route_planner.proofs.LeastLemmas.{asked_more, least_none, least_more, only_none, same_there}
use Rattle.route_planner.proofs.visits.least_days.Goals as goal

pub loop-duty-init : goal.loop-duty-init
loop-duty-init c =
    least_none c.in_ok-days.days.items (c.in_ok-days.ensures.items_if_clones_equal (only_none _ (λ day clone. clone))) (search rules)

pub loop-duty-preserved : goal.loop-duty-preserved
loop-duty-preserved c =
    let e = c.duty-item.result in
    let i = c.loop-duty.duty-index in
    let duties = c.args.duties.now in
    let days = c.loop-duty.days.items in
    let number = c.from-number.result in
    let told = c.loop-duty.invariant in
    let on_list : i < length duties = omega (arith, c.loop-duty-test.true) in
    let undone : is_none e.met ≡ true = ap not (sym c.if-is_done.ensures.value) in
    let within : e.component < length days = omega arith in
    let at : number < length days = omega arith in
    let asked : visits_asked (take (i + 1) duties) ≡ visits_asked (take i duties) ++ visit_of e ∷ [] =
    ap visits_asked (take_more duties i e on_list ∙ ap (λ d. take i duties ++ d ∷ []) (sym c.duty-item.is))
    ∙ asked_more (take i duties) e undone in
    let known : c.earlier.result ≡ earlier_of (get_or days e.component None) e.due =
    c.earlier.ensures.value
    ∙ ap (λ day. earlier_of day e.due)
    (c.index.ensures ∙ same_there days number c.index.result.now None at ∙ ap (λ n. get_or days n None) c.from-number.ensures) in
    let then_days : set days number (Some c.earlier.result) ≡ set days e.component (Some (earlier_of (get_or days e.component None) e.due)) =
    ap (λ n. set days n (Some c.earlier.result)) c.from-number.ensures ∙ ap (λ day. set days e.component (Some day)) known in
    subst (λ l. AreEarliestDays l (visits_asked (take (i + 1) duties))) (sym then_days)
    (subst (AreEarliestDays (set days e.component (Some (earlier_of (get_or days e.component None) e.due)))) (sym asked)
    (least_more days (visits_asked (take i duties)) told (visit_of e) within))
