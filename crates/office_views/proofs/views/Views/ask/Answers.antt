use Rattle.std.proofs.Common.{◌≡◌, true, false, Some, Ok, Err, length, refl, sym, ap, ◌∙◌, subst}
use Rattle.std.proofs.lemmas.Result.{err_from_is_err_and}
use Rattle.fact_store.specs.Coming.{stored}
use Rattle.fact_store.specs.Kept.{facts_in}
use Rattle.history_laws.specs.DayLaws.{up_to}
use Rattle.ldar_law.specs.declared.reply.Reply.TheVariants as replies
use Rattle.ldar_law.specs.Equipment.{unit_entry_of}
use Rattle.ldar_law.specs.Shown.{view_day, view_of}
use Rattle.unit_summaries.specs.Sound.{is_known}
use Rattle.office_views.specs.declared.shown.Shown.TheVariants.{NoSuch, Text}
use Rattle.office_views.specs.Answers.{IsShown}
use Rattle.office_views.specs.Asked.{asked, unit_known, view_unit}
use Rattle.office_views.specs.Sources.{AreReady}
use Rattle.office_views.proofs.AskedLemmas.{asked_whole, none_is_shown, text_is_shown}
use Rattle.office_views.proofs.KeptLemmas.{facts_of_adopted, noted, reads_within, ready, shown_is, unit_in_bound, unit_is_known, unit_known_is}
use Rattle.office_views.proofs.views.Views.ask.Goals as goal

pub unit_asked-requires-clause-startup : goal.unit_asked-requires-clause-startup
unit_asked-requires-clause-startup g c =
    let inside = c.self.inside in
    let sound = c.self.invariant.0 in
    let request = c.args.request.now in
    unit_in_bound sound.0 (stored inside.store) inside.register inside.headers.items inside.adopted sound.1 (view_unit request) (view_day request)

pub returns-in-Err-clause-value : goal.returns-in-Err-clause-value
returns-in-Err-clause-value g c =
    let inside = c.self.inside in
    let sound = c.self.invariant.0 in
    let request = c.args.request.now in
    let facts = up_to (view_day request) (facts_in (stored inside.store)) in
    let known = unit_known_is sound.0 (stored inside.store) inside.register inside.headers.items inside.adopted sound.1 (view_unit request)
    (view_day request) in
    let none = none_is_shown request facts c.requires.view c.in-Err.what (ap (asked request) (sym known) ∙ sym c.in-Err.ensures.value) in
    subst (IsShown (Ok (NoSuch c.in-Err.what)))
    (shown_is request (facts_in (stored inside.store)) c.args.self.now.adopted
    (facts_of_adopted sound.0 (stored inside.store) inside.register inside.headers.items inside.adopted sound.1 c.args.self.now c.self.view_is))
    (replies.NoSuch c.in-Err.what, none, refl)

pub returns-in_err-store-clause-value : goal.returns-in_err-store-clause-value
returns-in_err-store-clause-value g c =
    let inside = c.self.inside in
    let sound = c.self.invariant.0 in
    let request = c.args.request.now in
    let facts = up_to (view_day request) (facts_in (stored inside.store)) in
    let known = unit_known_is sound.0 (stored inside.store) inside.register inside.headers.items inside.adopted sound.1 (view_unit request)
    (view_day request) in
    let text = text_is_shown request facts c.requires.view c.in-Ok.entry (ap (asked request) (sym known) ∙ sym c.in-Ok.ensures.value) in
    let p = err_from_is_err_and c.from_residual.result c.from_residual.ensures.1 in
    rw p.1
    (subst (IsShown (Err p.0))
    (shown_is request (facts_in (stored inside.store)) c.args.self.now.adopted
    (facts_of_adopted sound.0 (stored inside.store) inside.register inside.headers.items inside.adopted sound.1 c.args.self.now c.self.view_is))
    text)

pub text_anew-text-requires-clause-ready : goal.text_anew-text-requires-clause-ready
text_anew-text-requires-clause-ready g c =
    let inside = c.self.inside in
    let sound = c.self.invariant.0 in
    subst (λ k. AreReady k inside.register inside.summaries) (sym c.in_ok-store.ensures.ok)
    (ready sound.0 (stored inside.store) inside.register inside.headers.items inside.adopted sound.1 inside.store.listed inside.summaries c.self.invariant.2)

pub text_anew-text-requires-clause-known : goal.text_anew-text-requires-clause-known
text_anew-text-requires-clause-known g c =
    let inside = c.self.inside in
    let sound = c.self.invariant.0 in
    let request = c.args.request.now in
    let entry = c.in-Ok.entry in
    let whole = asked_whole request (unit_known (view_unit request) (view_day request) (facts_in inside.register)) entry (sym c.in-Ok.ensures.value) in
    let known = unit_is_known sound.0 (stored inside.store) inside.register inside.headers.items inside.adopted sound.1 (view_unit request)
    (view_day request) entry whole.0 in
    subst (λ k. is_known k.arrived entry.unit ≡ true) (sym c.in_ok-store.ensures.ok) known.1

pub text_anew-text-requires-clause-facts : goal.text_anew-text-requires-clause-facts
text_anew-text-requires-clause-facts g c = c.self.invariant.1 ∙ ap (λ k. length k.arrived) (sym c.in_ok-store.ensures.ok)

pub text_anew-text-requires-clause-entered : goal.text_anew-text-requires-clause-entered
text_anew-text-requires-clause-entered g c =
    let inside = c.self.inside in
    let sound = c.self.invariant.0 in
    let request = c.args.request.now in
    let entry = c.in-Ok.entry in
    let whole = asked_whole request (unit_known (view_unit request) (view_day request) (facts_in inside.register)) entry (sym c.in-Ok.ensures.value) in
    let known = unit_known_is sound.0 (stored inside.store) inside.register inside.headers.items inside.adopted sound.1 (view_unit request)
    (view_day request) in
    subst (λ k. unit_entry_of (view_unit request) (up_to (view_day request) (facts_in k)) ≡ Some entry) (sym c.in_ok-store.ensures.ok)
    (sym known ∙ whole.0)

pub text_anew-text-requires-clause-startup : goal.text_anew-text-requires-clause-startup
text_anew-text-requires-clause-startup g c = c.in-Ok.ensures.startup

pub text_anew-text-requires-clause-whole : goal.text_anew-text-requires-clause-whole
text_anew-text-requires-clause-whole g c =
    let inside = c.self.inside in
    let sound = c.self.invariant.0 in
    let request = c.args.request.now in
    let entry = c.in-Ok.entry in
    let whole = asked_whole request (unit_known (view_unit request) (view_day request) (facts_in inside.register)) entry (sym c.in-Ok.ensures.value) in
    record { nothing_lacked = whole.1; in_calendar = c.in-Ok.ensures.in_calendar }

pub invariant_of-self : goal.invariant_of-self
invariant_of-self g c = rw c.in_err-store.ensures.unchanged c.self.invariant

pub invariant_of-self-2 : goal.invariant_of-self-2
invariant_of-self-2 g c = rw c.of.ensures.value (
  rw c.in_ok-store.ensures.ok c.self.invariant.0,
  rw c.in_ok-store.ensures.ok c.self.invariant.1,
  c.text_anew-text.ensures.sound,
)

pub invariant_of-self-in_err-text : goal.invariant_of-self-in_err-text
invariant_of-self-in_err-text g c = rw c.of.ensures.value (
  rw c.in_ok-store.ensures.ok c.self.invariant.0,
  rw c.in_ok-store.ensures.ok c.self.invariant.1,
  c.text_anew-text.ensures.sound,
)

pub returns-in_err-text-clause-value : goal.returns-in_err-text-clause-value
returns-in_err-text-clause-value g c =
    let inside = c.self.inside in
    let sound = c.self.invariant.0 in
    let request = c.args.request.now in
    let p = err_from_is_err_and c.from_residual-in_err-text.result c.from_residual-in_err-text.ensures.1 in
    rw p.1
    (subst (IsShown (Err p.0))
    (shown_is request (facts_in (stored inside.store)) c.args.self.now.adopted
    (facts_of_adopted sound.0 (stored inside.store) inside.register inside.headers.items inside.adopted sound.1 c.args.self.now c.self.view_is))
    (subst (λ k. IsShown (Err p.0) (view_of request (up_to (view_day request) (facts_in k)))) c.in_ok-store.ensures.ok
    c.in_err-text.ensures.value))

pub returns-in_err-text-clause-counted : goal.returns-in_err-text-clause-counted
returns-in_err-text-clause-counted g c =
    let inside = c.self.inside in
    let sound = c.self.invariant.0 in
    let request = c.args.request.now in
    let entry = c.in-Ok.entry in
    let whole = asked_whole request (unit_known (view_unit request) (view_day request) (facts_in inside.register)) entry (sym c.in-Ok.ensures.value) in
    let known = unit_is_known sound.0 (stored inside.store) inside.register inside.headers.items inside.adopted sound.1 (view_unit request)
    (view_day request) entry whole.0 in
    reads_within sound.0 (stored inside.store) inside.register inside.headers.items inside.adopted sound.1 c.args.self.now c.self.view_is
    _ inside.summaries (view_unit request) entry.unit _ _ c.in_ok-store.ensures.ok refl known.0 c.text_anew-text.ensures.counted

pub returns-in_err-text-clause-answered : goal.returns-in_err-text-clause-answered
returns-in_err-text-clause-answered g c =
    let inside = c.self.inside in
    let sound = c.self.invariant.0 in
    let request = c.args.request.now in
    let entry = c.in-Ok.entry in
    let whole = asked_whole request (unit_known (view_unit request) (view_day request) (facts_in inside.register)) entry (sym c.in-Ok.ensures.value) in
    let known = unit_is_known sound.0 (stored inside.store) inside.register inside.headers.items inside.adopted sound.1 (view_unit request)
    (view_day request) entry whole.0 in
    let p = err_from_is_err_and c.from_residual-in_err-text.result c.from_residual-in_err-text.ensures.1 in
    rw p.1
    (noted sound.0 (stored inside.store) inside.register inside.headers.items inside.adopted sound.1 c.args.self.now c.self.view_is false
    (view_unit request) entry.unit inside.facts _ known.0 c.self.invariant.1
    c.in_err-text.ensures.answered)

pub returns-clause-value : goal.returns-clause-value
returns-clause-value g c =
    let inside = c.self.inside in
    let sound = c.self.invariant.0 in
    let request = c.args.request.now in
    let text = c.in_ok-text.field-0 in
    subst (IsShown (Ok (Text text)))
    (shown_is request (facts_in (stored inside.store)) c.args.self.now.adopted
    (facts_of_adopted sound.0 (stored inside.store) inside.register inside.headers.items inside.adopted sound.1 c.args.self.now c.self.view_is))
    (subst (λ k. IsShown (Ok (Text text)) (view_of request (up_to (view_day request) (facts_in k)))) c.in_ok-store.ensures.ok
    c.in_ok-text.ensures.value)

pub returns-clause-answered : goal.returns-clause-answered
returns-clause-answered g c =
    let inside = c.self.inside in
    let sound = c.self.invariant.0 in
    let request = c.args.request.now in
    let entry = c.in-Ok.entry in
    let whole = asked_whole request (unit_known (view_unit request) (view_day request) (facts_in inside.register)) entry (sym c.in-Ok.ensures.value) in
    let known = unit_is_known sound.0 (stored inside.store) inside.register inside.headers.items inside.adopted sound.1 (view_unit request)
    (view_day request) entry whole.0 in
    noted sound.0 (stored inside.store) inside.register inside.headers.items inside.adopted sound.1 c.args.self.now c.self.view_is true (view_unit request)
    entry.unit inside.facts _ known.0 c.self.invariant.1
    c.in_ok-text.ensures.answered

pub returns-clause-counted : goal.returns-clause-counted
returns-clause-counted g c =
    let inside = c.self.inside in
    let sound = c.self.invariant.0 in
    let request = c.args.request.now in
    let entry = c.in-Ok.entry in
    let whole = asked_whole request (unit_known (view_unit request) (view_day request) (facts_in inside.register)) entry (sym c.in-Ok.ensures.value) in
    let known = unit_is_known sound.0 (stored inside.store) inside.register inside.headers.items inside.adopted sound.1 (view_unit request)
    (view_day request) entry whole.0 in
    reads_within sound.0 (stored inside.store) inside.register inside.headers.items inside.adopted sound.1 c.args.self.now c.self.view_is
    _ inside.summaries (view_unit request) entry.unit _ _ c.in_ok-store.ensures.ok refl known.0 c.text_anew-text.ensures.counted
