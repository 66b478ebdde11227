use Rattle.std.proofs.Common.{◌≡◌, ◌-◌, Bool, drop, length, refl, sym, subst, ◌∙◌, arith}
use Rattle.std.proofs.lemmas.Bool.{false≢true}
use Rattle.list_words.specs.Order.{Ascends}
use Rattle.fact_kinds.specs.declared.class.Class.{Class}
use Rattle.fact_kinds.specs.declared.key.Key.{Key}
use Rattle.fact_kinds.specs.Facts.{is_earlier}
use Rattle.fact_kinds.proofs.KeyOrder.{strict_earlier}
use Rattle.ldar_law.proofs.Adjacent.{alone, one_in_front, out_of_order}
use Rattle.monitor_calendar.proofs.in_order.are_classes_ordered.Goals as goal

abbrev order : (Key × Class) → (Key × Class) → Bool
order a b = is_earlier a.0 b.0

pub loop-place-init : goal.loop-place-init
loop-place-init c = alone order c.args.classes.now (length c.args.classes.now - 1) (omega arith)

pub loop-place-preserved : goal.loop-place-preserved
loop-place-preserved c =
    one_in_front order (strict_earlier (λ (x : Key × Class). x.0)) c.args.classes.now c.loop-place.place c.index-classes-place.result
    c.index-classes-place-in-loop-place.result
    c.loop-place-test.true (omega arith) (sym c.precedes.ensures.value ∙ c.if-not-precedes.false) c.loop-place.invariant

pub returns-then-not-precedes : goal.returns-then-not-precedes
returns-then-not-precedes c = record {
  value = (
    λ no. absurd (false≢true no),
    λ up. absurd (false≢true (sym c.if-not-precedes.true ∙ c.precedes.ensures.value
        ∙ out_of_order order c.args.classes.now c.loop-place.place c.index-classes-place.result
        c.index-classes-place-in-loop-place.result c.loop-place-test.true (omega arith) up)),
  );
}

pub returns : goal.returns
returns c =
    let first : c.loop-place.place - 1 ≡ 0 = omega arith in
    record { value = (λ yes. subst (λ n. Ascends order (drop n c.args.classes.now)) first c.loop-place.invariant, λ up. refl) }
