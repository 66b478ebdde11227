use Rattle.std.proofs.Common.{◌≡◌, ◌-◌, Bool, drop, length, refl, sym, subst, ◌∙◌, arith}
use Rattle.std.proofs.lemmas.Bool.{false≢true}
use Rattle.list_words.specs.Order.{Ascends}
use Rattle.ldar_law.specs.declared.event.Event.{Event}
use Rattle.fact_kinds.specs.Facts.{is_earlier}
use Rattle.fact_kinds.proofs.KeyOrder.{strict_earlier}
use Rattle.ldar_law.proofs.Adjacent.{alone, one_in_front, out_of_order}
use Rattle.monitor_calendar.proofs.in_order.are_events_ordered.Goals as goal

abbrev order : Event → Event → Bool
order a b = is_earlier a.key b.key

pub loop-place-init : goal.loop-place-init
loop-place-init c = alone order c.args.events.now (length c.args.events.now - 1) (omega arith)

pub loop-place-preserved : goal.loop-place-preserved
loop-place-preserved c =
    one_in_front order (strict_earlier (λ (x : Event). x.key)) c.args.events.now c.loop-place.place c.index-events-place.result
    c.index-events-place-in-loop-place.result
    c.loop-place-test.true (omega arith) (sym c.precedes.ensures.value ∙ c.if-not-precedes.false) c.loop-place.invariant

pub returns-then-not-precedes : goal.returns-then-not-precedes
returns-then-not-precedes c = record {
  value = (
    λ no. absurd (false≢true no),
    λ up. absurd (false≢true (sym c.if-not-precedes.true ∙ c.precedes.ensures.value
        ∙ out_of_order order c.args.events.now c.loop-place.place c.index-events-place.result
        c.index-events-place-in-loop-place.result c.loop-place-test.true (omega arith) up)),
  );
}

pub returns : goal.returns
returns c =
    let first : c.loop-place.place - 1 ≡ 0 = omega arith in
    record { value = (λ yes. subst (λ n. Ascends order (drop n c.args.events.now)) first c.loop-place.invariant, λ up. refl) }
