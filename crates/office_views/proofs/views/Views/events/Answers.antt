use Rattle.std.proofs.Common.{◌≡◌, ◌+◌, ◌*◌, ◌≤◌, true, IfOk, Some, None, refl, sym, ap, ◌∙◌, subst}
use Rattle.std.specs.Option.{option_map_or}
use Rattle.fact_kinds.specs.Facts.{facts_of}
use Rattle.fact_store.specs.Coming.{stored}
use Rattle.fact_store.specs.Kept.{facts_in}
use Rattle.history_laws.specs.DayLaws.{up_to}
use Rattle.ldar_law.specs.Equipment.{equipment_of}
use Rattle.ldar_law.specs.Units.{history_of_component}
use Rattle.unit_summaries.specs.Sound.{is_known}
use Rattle.office_views.specs.Sources.{AreReady}
use Rattle.office_views.specs.Viewed.{stirred_in}
use Rattle.office_views.proofs.HistoryLemmas.{no_history}
use Rattle.office_views.proofs.KeptLemmas.{component_is_known, component_of_register, facts_of_adopted, reads_within, ready, stored_ascend}
use Rattle.office_views.proofs.views.Views.events.Goals as goal

pub events_anew-history-requires-clause-ready : goal.events_anew-history-requires-clause-ready
events_anew-history-requires-clause-ready g c =
    let inside = c.self.inside in
    let sound = c.self.invariant.0 in
    subst (λ k. AreReady k inside.register inside.summaries) (sym c.in_ok-store.ensures.ok)
    (ready sound.0 (stored inside.store) inside.register inside.headers.items inside.adopted sound.1 inside.store.listed inside.summaries c.self.invariant.2)

pub events_anew-history-requires-clause-known : goal.events_anew-history-requires-clause-known
events_anew-history-requires-clause-known g c =
    let inside = c.self.inside in
    let sound = c.self.invariant.0 in
    let a = c.args in
    let item = c.in-Some.item in
    let known = component_is_known sound.0 (stored inside.store) inside.register inside.headers.items inside.adopted sound.1 a.component item
    c.in-Some.ensures.value in
    subst (λ k. is_known k.arrived item.unit ≡ true) (sym c.in_ok-store.ensures.ok) known.2

pub events_anew-history-requires-clause-entered : goal.events_anew-history-requires-clause-entered
events_anew-history-requires-clause-entered g c =
    let inside = c.self.inside in
    let sound = c.self.invariant.0 in
    let a = c.args in
    let item = c.in-Some.item in
    let known = component_is_known sound.0 (stored inside.store) inside.register inside.headers.items inside.adopted sound.1 a.component item
    c.in-Some.ensures.value in
    subst (λ k. equipment_of item.component (facts_in k) ≡ Some item) (sym c.in_ok-store.ensures.ok)
    (ap (λ n. equipment_of n (facts_in (stored inside.store))) known.1 ∙ known.0)

pub invariant_of-self : goal.invariant_of-self
invariant_of-self g c = rw c.in_err-store.ensures.unchanged c.self.invariant

pub invariant_of-self-2 : goal.invariant_of-self-2
invariant_of-self-2 g c = rw c.of.ensures.value (
  rw c.in_ok-store.ensures.ok c.self.invariant.0,
  rw c.in_ok-store.ensures.ok c.self.invariant.1,
  c.events_anew-history.ensures.sound,
)

pub returns-in_default-clause-value : goal.returns-in_default-clause-value
returns-in_default-clause-value g c =
    let inside = c.self.inside in
    let sound = c.self.invariant.0 in
    let a = c.args in
    let none : equipment_of a.component (facts_in (stored inside.store)) ≡ None =
    sym (component_of_register sound.0 (stored inside.store) inside.register inside.headers.items inside.adopted sound.1 a.component) ∙ sym
    c.in_default.ensures.value in
    subst (λ es. None ≡ history_of_component a.component (up_to a.day es))
    (facts_of_adopted sound.0 (stored inside.store) inside.register inside.headers.items inside.adopted sound.1 c.args.self.now c.self.view_is)
    (no_history a.day a.component (facts_in (stored inside.store))
    (stored_ascend sound.0 (stored inside.store) inside.register inside.headers.items inside.adopted sound.1) none)

pub returns-clause-value : goal.returns-clause-value
returns-clause-value g c =
    let inside = c.self.inside in
    let sound = c.self.invariant.0 in
    let a = c.args in
    let item = c.in-Some.item in
    let known = component_is_known sound.0 (stored inside.store) inside.register inside.headers.items inside.adopted sound.1 a.component item
    c.in-Some.ensures.value in
    let result = c.events_anew-history.result in
    subst (λ es. IfOk result (λ history. history ≡ history_of_component a.component (up_to a.day es)))
    (facts_of_adopted sound.0 (stored inside.store) inside.register inside.headers.items inside.adopted sound.1 c.args.self.now c.self.view_is)
    (subst (λ n. IfOk result (λ history. history ≡ history_of_component n (up_to a.day (facts_in (stored inside.store))))) known.1
    (subst (λ k. IfOk result (λ history. history ≡ history_of_component item.component (up_to a.day (facts_in k)))) c.in_ok-store.ensures.ok
    c.events_anew-history.ensures.value))

pub returns-clause-counted : goal.returns-clause-counted
returns-clause-counted g c =
    let inside = c.self.inside in
    let sound = c.self.invariant.0 in
    let a = c.args in
    let item = c.in-Some.item in
    let known = component_is_known sound.0 (stored inside.store) inside.register inside.headers.items inside.adopted sound.1 a.component item
    c.in-Some.ensures.value in
    let entered : equipment_of a.component (facts_of a.self.now.adopted) ≡ Some item =
    ap (equipment_of a.component) (sym (facts_of_adopted sound.0 (stored inside.store) inside.register inside.headers.items inside.adopted sound.1
    c.args.self.now c.self.view_is)) ∙ known.0 in
    subst (λ found. c.events_anew-history.new.steps ≤ a.steps.now + 2 * option_map_or (λ i. stirred_in a.self.now i.unit) found 0) (sym entered)
    (reads_within sound.0 (stored inside.store) inside.register inside.headers.items inside.adopted sound.1 c.args.self.now c.self.view_is
    _ inside.summaries item.unit item.unit _ _ c.in_ok-store.ensures.ok refl refl c.events_anew-history.ensures.counted)
