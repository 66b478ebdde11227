use Rattle.std.proofs.Common.{◌≡◌, true, refl, Some, None, sym, ap, ◌∙◌, subst, inl, inr}
use Rattle.fact_store.specs.Kept.{facts_in}
use Rattle.history_laws.specs.DayLaws.{up_to}
use Rattle.ldar_law.specs.declared.request.Request.TheVariants.{Tags}
use Rattle.std.specs.Option.{option_map}
use Rattle.fact_store.specs.Coming.{stored}
use Rattle.office_views.specs.Asked.{unit_known}
use Rattle.unit_summaries.specs.Sound.{is_known}
use Rattle.office_views.specs.Sources.{AreReady}
use Rattle.office_views.specs.Viewed.{noted_at}
use Rattle.office_views.specs.Totals.{totals_of_unit, totals_asked}
use Rattle.office_views.proofs.AskedLemmas.{asked_whole, asked_none}
use Rattle.office_views.proofs.KeptLemmas.{facts_of_adopted, reads_within, ready, unit_in_bound, unit_is_known, unit_known_is}
use Rattle.office_views.proofs.SoundLemmas.{noted_is}
use Rattle.office_views.proofs.views.Views.totals.Goals as goal

pub unit_asked-requires-clause-startup : goal.unit_asked-requires-clause-startup
unit_asked-requires-clause-startup g c =
    let inside = c.self.inside in
    let sound = c.self.invariant.0 in
    unit_in_bound sound.0 (stored inside.store) inside.register inside.headers.items inside.adopted sound.1 c.args.unit c.args.day

pub totals_anew-totals-requires-clause-startup : goal.totals_anew-totals-requires-clause-startup
totals_anew-totals-requires-clause-startup g c = c.in-Ok.ensures.startup

-- there is no such unit
pub returns-in_default-clause-value : goal.returns-in_default-clause-value
returns-in_default-clause-value g c =
    let inside = c.self.inside in
    let sound = c.self.invariant.0 in
    let a = c.args in
    let known = unit_known_is sound.0 (stored inside.store) inside.register inside.headers.items inside.adopted sound.1 a.unit a.day in
    let adopted = facts_of_adopted sound.0 (stored inside.store) inside.register inside.headers.items inside.adopted sound.1 a.self.now c.self.view_is in
    let none : unit_known a.unit a.day (facts_in inside.register) ≡ None =
    elim (asked_none (Tags a.unit a.day) (unit_known a.unit a.day (facts_in inside.register)) c.in_default.field-0 (sym c.in_default.ensures.value)) [
      | inl nothing ↦ nothing.0
      | inr lacks ↦ absurd (let never : None ≡ Some c.in_default.field-0 = lacks.2 in cc)
    ] in
    subst (λ es. None ≡ totals_asked a.unit a.day (up_to a.day es)) adopted
    (sym (ap (option_map (λ entry. totals_of_unit entry a.day (up_to a.day (facts_in (stored inside.store))))) (sym known ∙ none)))

pub returns-clause-value : goal.returns-clause-value
returns-clause-value g c =
    let inside = c.self.inside in
    let sound = c.self.invariant.0 in
    let a = c.args in
    let entry = c.in-Ok.entry in
    let known = unit_known_is sound.0 (stored inside.store) inside.register inside.headers.items inside.adopted sound.1 a.unit a.day in
    let whole = asked_whole (Tags a.unit a.day) (unit_known a.unit a.day (facts_in inside.register)) entry (sym c.in-Ok.ensures.value) in
    let adopted = facts_of_adopted sound.0 (stored inside.store) inside.register inside.headers.items inside.adopted sound.1 a.self.now c.self.view_is in
    subst (λ es. Some c.in_ok-totals.field-0 ≡ totals_asked a.unit a.day (up_to a.day es)) adopted
    (ap (λ t. Some t) (c.in_ok-totals.ensures.value ∙ ap (λ k. totals_of_unit entry a.day (up_to a.day (facts_in k))) c.in_ok-store.ensures.ok)
    ∙ sym (ap (option_map (λ e. totals_of_unit e a.day (up_to a.day (facts_in (stored inside.store))))) (sym known ∙ whole.0)))

pub totals_anew-totals-requires-clause-ready : goal.totals_anew-totals-requires-clause-ready
totals_anew-totals-requires-clause-ready g c =
    let inside = c.self.inside in
    let sound = c.self.invariant.0 in
    subst (λ k. AreReady k inside.register inside.summaries) (sym c.in_ok-store.ensures.ok)
    (ready sound.0 (stored inside.store) inside.register inside.headers.items inside.adopted sound.1 inside.store.listed inside.summaries c.self.invariant.2)

pub totals_anew-totals-requires-clause-known : goal.totals_anew-totals-requires-clause-known
totals_anew-totals-requires-clause-known g c =
    let inside = c.self.inside in
    let sound = c.self.invariant.0 in
    let a = c.args in
    let entry = c.in-Ok.entry in
    let whole = asked_whole (Tags a.unit a.day) (unit_known a.unit a.day (facts_in inside.register)) entry (sym c.in-Ok.ensures.value) in
    let known = unit_is_known sound.0 (stored inside.store) inside.register inside.headers.items inside.adopted sound.1 a.unit a.day entry whole.0 in
    subst (λ k. is_known k.arrived entry.unit ≡ true) (sym c.in_ok-store.ensures.ok) known.1

pub invariant_of-self : goal.invariant_of-self
invariant_of-self g c = rw c.in_err-store.ensures.unchanged c.self.invariant

pub invariant_of-self-2 : goal.invariant_of-self-2
invariant_of-self-2 g c = rw c.of.ensures.value (
  rw c.in_ok-store.ensures.ok c.self.invariant.0,
  rw c.in_ok-store.ensures.ok c.self.invariant.1,
  c.totals_anew-totals.ensures.sound,
)

pub invariant_of-self-in_err-totals : goal.invariant_of-self-in_err-totals
invariant_of-self-in_err-totals g c = rw c.of.ensures.value (
  rw c.in_ok-store.ensures.ok c.self.invariant.0,
  rw c.in_ok-store.ensures.ok c.self.invariant.1,
  c.totals_anew-totals.ensures.sound,
)

pub returns-in_err-totals-clause-counted : goal.returns-in_err-totals-clause-counted
returns-in_err-totals-clause-counted g c =
    let inside = c.self.inside in
    let sound = c.self.invariant.0 in
    let a = c.args in
    let entry = c.in-Ok.entry in
    let whole = asked_whole (Tags a.unit a.day) (unit_known a.unit a.day (facts_in inside.register)) entry (sym c.in-Ok.ensures.value) in
    let known = unit_is_known sound.0 (stored inside.store) inside.register inside.headers.items inside.adopted sound.1 a.unit a.day entry whole.0 in
    reads_within sound.0 (stored inside.store) inside.register inside.headers.items inside.adopted sound.1 c.args.self.now c.self.view_is
    _ inside.summaries a.unit entry.unit _ _ c.in_ok-store.ensures.ok refl known.0 c.totals_anew-totals.ensures.counted

pub returns-in_err-totals-clause-answered : goal.returns-in_err-totals-clause-answered
returns-in_err-totals-clause-answered g c =
    let inside = c.self.inside in
    let sound = c.self.invariant.0 in
    λ u.
    c.totals_anew-totals.ensures.answered u
    ∙ ap (λ ns. noted_at ns u) (sym (noted_is sound.0 (stored inside.store) inside.register inside.headers.items inside.adopted sound.1 c.args.self.now
    c.self.view_is))

pub returns-clause-counted : goal.returns-clause-counted
returns-clause-counted g c =
    let inside = c.self.inside in
    let sound = c.self.invariant.0 in
    let a = c.args in
    let entry = c.in-Ok.entry in
    let whole = asked_whole (Tags a.unit a.day) (unit_known a.unit a.day (facts_in inside.register)) entry (sym c.in-Ok.ensures.value) in
    let known = unit_is_known sound.0 (stored inside.store) inside.register inside.headers.items inside.adopted sound.1 a.unit a.day entry whole.0 in
    reads_within sound.0 (stored inside.store) inside.register inside.headers.items inside.adopted sound.1 c.args.self.now c.self.view_is
    _ inside.summaries a.unit entry.unit _ _ c.in_ok-store.ensures.ok refl known.0 c.totals_anew-totals.ensures.counted

pub returns-clause-answered : goal.returns-clause-answered
returns-clause-answered g c =
    let inside = c.self.inside in
    let sound = c.self.invariant.0 in
    λ u.
    c.totals_anew-totals.ensures.answered u
    ∙ ap (λ ns. noted_at ns u) (sym (noted_is sound.0 (stored inside.store) inside.register inside.headers.items inside.adopted sound.1 c.args.self.now
    c.self.view_is))
