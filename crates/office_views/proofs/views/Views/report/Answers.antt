use Rattle.std.proofs.Common.{◌≡◌, true, false, Ok, Err, length, refl, sym, ap, ◌∙◌, subst}
use Rattle.std.proofs.lemmas.Result.{err_from_is_err_and}
use Rattle.fact_store.specs.Coming.{stored}
use Rattle.fact_store.specs.Kept.{facts_in}
use Rattle.history_laws.specs.DayLaws.{up_to}
use Rattle.ldar_law.specs.declared.request.Request.TheVariants.{Report as ReportView}
use Rattle.ldar_law.specs.declared.report.Report.{Report}
use Rattle.ldar_law.specs.Shown.{report_of_unit}
use Rattle.office_views.specs.declared.shown.AskError.TheVariants.{NoSuch as NoneOf}
use Rattle.office_views.specs.Answers.{report_asked, Tells}
use Rattle.office_views.specs.Asked.{asked, unit_known}
use Rattle.unit_summaries.specs.Sound.{is_known}
use Rattle.office_views.specs.Sources.{AreReady}
use Rattle.office_views.proofs.AskedLemmas.{asked_whole, half_begun, none_is_told, report_is_told}
use Rattle.office_views.proofs.KeptLemmas.{facts_of_adopted, noted, reads_within, ready, unit_in_bound, unit_is_known, unit_known_is}
use Rattle.office_views.proofs.views.Views.report.Goals as goal

pub unit_asked-requires-clause-startup : goal.unit_asked-requires-clause-startup
unit_asked-requires-clause-startup g c =
    let inside = c.self.inside in
    let sound = c.self.invariant.0 in
    unit_in_bound sound.0 (stored inside.store) inside.register inside.headers.items inside.adopted sound.1 c.args.unit c.args.day

pub returns-in-Err-clause-value : goal.returns-in-Err-clause-value
returns-in-Err-clause-value g c =
    let inside = c.self.inside in
    let sound = c.self.invariant.0 in
    let a = c.args in
    let facts = up_to a.day (facts_in (stored inside.store)) in
    let known = unit_known_is sound.0 (stored inside.store) inside.register inside.headers.items inside.adopted sound.1 a.unit a.day in
    let none = none_is_told a.unit a.half a.day facts c.in-Err.what (ap (asked (ReportView a.unit a.half a.day)) (sym known) ∙ sym c.in-Err.ensures.value) in
    subst (λ es. Tells (Err (NoneOf c.in-Err.what)) (report_asked a.unit a.half a.day (up_to a.day es)))
    (facts_of_adopted sound.0 (stored inside.store) inside.register inside.headers.items inside.adopted sound.1 a.self.now c.self.view_is) none

pub report_anew-report-requires-clause-startup : goal.report_anew-report-requires-clause-startup
report_anew-report-requires-clause-startup g c = c.in-Ok.ensures.startup

pub report_anew-report-requires-clause-begun : goal.report_anew-report-requires-clause-begun
report_anew-report-requires-clause-begun g c =
    let a = c.args in
    let entry = c.in-Ok.entry in
    let whole = asked_whole (ReportView a.unit a.half a.day) (unit_known a.unit a.day (facts_in c.self.inside.register)) entry
    (sym c.in-Ok.ensures.value) in
    half_begun entry.startup a.half a.day whole.1

pub returns-in_err-store-clause-value : goal.returns-in_err-store-clause-value
returns-in_err-store-clause-value g c =
    let a = c.args in
    let inside = c.self.inside in
    let sound = c.self.invariant.0 in
    let entry = c.in-Ok.entry in
    let facts = up_to a.day (facts_in (stored inside.store)) in
    let known = unit_known_is sound.0 (stored inside.store) inside.register inside.headers.items inside.adopted sound.1 a.unit a.day in
    let whole = asked_whole (ReportView a.unit a.half a.day) (unit_known a.unit a.day (facts_in inside.register)) entry (sym c.in-Ok.ensures.value) in
    let told = report_is_told a.unit a.half a.day facts entry (sym known ∙ whole.0) (half_begun entry.startup a.half a.day whole.1) in
    let adopted = facts_of_adopted sound.0 (stored inside.store) inside.register inside.headers.items inside.adopted sound.1 a.self.now c.self.view_is in
    let p = err_from_is_err_and c.from_residual.result c.from_residual.ensures.1 in
    rw (p.1, p.2)
    (subst (λ es. (report : Report) × (report_asked a.unit a.half a.day (up_to a.day es) ≡ Ok report)) adopted
    (report_of_unit entry a.half a.day facts, told))

pub returns-in_err-report-clause-value : goal.returns-in_err-report-clause-value
returns-in_err-report-clause-value g c =
    let a = c.args in
    let inside = c.self.inside in
    let sound = c.self.invariant.0 in
    let entry = c.in-Ok.entry in
    let facts = up_to a.day (facts_in (stored inside.store)) in
    let known = unit_known_is sound.0 (stored inside.store) inside.register inside.headers.items inside.adopted sound.1 a.unit a.day in
    let whole = asked_whole (ReportView a.unit a.half a.day) (unit_known a.unit a.day (facts_in inside.register)) entry (sym c.in-Ok.ensures.value) in
    let told = report_is_told a.unit a.half a.day facts entry (sym known ∙ whole.0) (half_begun entry.startup a.half a.day whole.1) in
    let adopted = facts_of_adopted sound.0 (stored inside.store) inside.register inside.headers.items inside.adopted sound.1 a.self.now c.self.view_is in
    let p = err_from_is_err_and c.from_residual-in_err-report.result c.from_residual-in_err-report.ensures.1 in
    rw (p.1, p.2)
    (subst (λ es. (report : Report) × (report_asked a.unit a.half a.day (up_to a.day es) ≡ Ok report)) adopted
    (report_of_unit entry a.half a.day facts, told))

pub returns-clause-value : goal.returns-clause-value
returns-clause-value g c =
    let a = c.args in
    let inside = c.self.inside in
    let sound = c.self.invariant.0 in
    let entry = c.in-Ok.entry in
    let facts = up_to a.day (facts_in (stored inside.store)) in
    let known = unit_known_is sound.0 (stored inside.store) inside.register inside.headers.items inside.adopted sound.1 a.unit a.day in
    let whole = asked_whole (ReportView a.unit a.half a.day) (unit_known a.unit a.day (facts_in inside.register)) entry (sym c.in-Ok.ensures.value) in
    let told = report_is_told a.unit a.half a.day facts entry (sym known ∙ whole.0) (half_begun entry.startup a.half a.day whole.1) in
    let adopted = facts_of_adopted sound.0 (stored inside.store) inside.register inside.headers.items inside.adopted sound.1 a.self.now c.self.view_is in
    let report = c.in_ok-report.field-0 in
    subst (λ es. report_asked a.unit a.half a.day (up_to a.day es) ≡ Ok report) adopted
    (told ∙ ap (λ k. Ok (report_of_unit entry a.half a.day (up_to a.day (facts_in k)))) (sym c.in_ok-store.ensures.ok)
    ∙ ap (λ r. Ok r) (sym c.in_ok-report.ensures.value))

pub report_anew-report-requires-clause-ready : goal.report_anew-report-requires-clause-ready
report_anew-report-requires-clause-ready g c =
    let inside = c.self.inside in
    let sound = c.self.invariant.0 in
    subst (λ k. AreReady k inside.register inside.summaries) (sym c.in_ok-store.ensures.ok)
    (ready sound.0 (stored inside.store) inside.register inside.headers.items inside.adopted sound.1 inside.store.listed inside.summaries c.self.invariant.2)

pub report_anew-report-requires-clause-known : goal.report_anew-report-requires-clause-known
report_anew-report-requires-clause-known g c =
    let inside = c.self.inside in
    let sound = c.self.invariant.0 in
    let a = c.args in
    let entry = c.in-Ok.entry in
    let whole = asked_whole (ReportView a.unit a.half a.day) (unit_known a.unit a.day (facts_in inside.register)) entry (sym c.in-Ok.ensures.value) in
    let known = unit_is_known sound.0 (stored inside.store) inside.register inside.headers.items inside.adopted sound.1 a.unit a.day entry whole.0 in
    subst (λ k. is_known k.arrived entry.unit ≡ true) (sym c.in_ok-store.ensures.ok) known.1

pub report_anew-report-requires-clause-facts : goal.report_anew-report-requires-clause-facts
report_anew-report-requires-clause-facts g c = c.self.invariant.1 ∙ ap (λ k. length k.arrived) (sym c.in_ok-store.ensures.ok)

pub invariant_of-self : goal.invariant_of-self
invariant_of-self g c = rw c.in_err-store.ensures.unchanged c.self.invariant

pub invariant_of-self-2 : goal.invariant_of-self-2
invariant_of-self-2 g c = rw c.of.ensures.value (
  rw c.in_ok-store.ensures.ok c.self.invariant.0,
  rw c.in_ok-store.ensures.ok c.self.invariant.1,
  c.report_anew-report.ensures.sound,
)

pub invariant_of-self-in_err-report : goal.invariant_of-self-in_err-report
invariant_of-self-in_err-report g c = rw c.of.ensures.value (
  rw c.in_ok-store.ensures.ok c.self.invariant.0,
  rw c.in_ok-store.ensures.ok c.self.invariant.1,
  c.report_anew-report.ensures.sound,
)

pub returns-in_err-report-clause-counted : goal.returns-in_err-report-clause-counted
returns-in_err-report-clause-counted g c =
    let inside = c.self.inside in
    let sound = c.self.invariant.0 in
    let a = c.args in
    let entry = c.in-Ok.entry in
    let whole = asked_whole (ReportView a.unit a.half a.day) (unit_known a.unit a.day (facts_in inside.register)) entry (sym c.in-Ok.ensures.value) in
    let known = unit_is_known sound.0 (stored inside.store) inside.register inside.headers.items inside.adopted sound.1 a.unit a.day entry whole.0 in
    reads_within sound.0 (stored inside.store) inside.register inside.headers.items inside.adopted sound.1 c.args.self.now c.self.view_is
    _ inside.summaries a.unit entry.unit _ _ c.in_ok-store.ensures.ok refl known.0 c.report_anew-report.ensures.counted

pub returns-in_err-report-clause-answered : goal.returns-in_err-report-clause-answered
returns-in_err-report-clause-answered g c =
    let inside = c.self.inside in
    let sound = c.self.invariant.0 in
    let a = c.args in
    let entry = c.in-Ok.entry in
    let whole = asked_whole (ReportView a.unit a.half a.day) (unit_known a.unit a.day (facts_in inside.register)) entry (sym c.in-Ok.ensures.value) in
    let known = unit_is_known sound.0 (stored inside.store) inside.register inside.headers.items inside.adopted sound.1 a.unit a.day entry whole.0 in
    let p = err_from_is_err_and c.from_residual-in_err-report.result c.from_residual-in_err-report.ensures.1 in
    rw p.1
    (noted sound.0 (stored inside.store) inside.register inside.headers.items inside.adopted sound.1 c.args.self.now c.self.view_is false a.unit entry.unit
    inside.facts _ known.0 c.self.invariant.1
    c.in_err-report.ensures.answered)

pub returns-clause-counted : goal.returns-clause-counted
returns-clause-counted g c =
    let inside = c.self.inside in
    let sound = c.self.invariant.0 in
    let a = c.args in
    let entry = c.in-Ok.entry in
    let whole = asked_whole (ReportView a.unit a.half a.day) (unit_known a.unit a.day (facts_in inside.register)) entry (sym c.in-Ok.ensures.value) in
    let known = unit_is_known sound.0 (stored inside.store) inside.register inside.headers.items inside.adopted sound.1 a.unit a.day entry whole.0 in
    reads_within sound.0 (stored inside.store) inside.register inside.headers.items inside.adopted sound.1 c.args.self.now c.self.view_is
    _ inside.summaries a.unit entry.unit _ _ c.in_ok-store.ensures.ok refl known.0 c.report_anew-report.ensures.counted

pub returns-clause-answered : goal.returns-clause-answered
returns-clause-answered g c =
    let inside = c.self.inside in
    let sound = c.self.invariant.0 in
    let a = c.args in
    let entry = c.in-Ok.entry in
    let whole = asked_whole (ReportView a.unit a.half a.day) (unit_known a.unit a.day (facts_in inside.register)) entry (sym c.in-Ok.ensures.value) in
    let known = unit_is_known sound.0 (stored inside.store) inside.register inside.headers.items inside.adopted sound.1 a.unit a.day entry whole.0 in
    noted sound.0 (stored inside.store) inside.register inside.headers.items inside.adopted sound.1 c.args.self.now c.self.view_is true a.unit entry.unit
    inside.facts _ known.0 c.self.invariant.1
    c.in_ok-report.ensures.answered
