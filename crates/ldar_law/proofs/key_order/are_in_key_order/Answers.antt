use Rattle.std.proofs.Common.{◌≡◌, ◌-◌, drop, length, refl, sym, subst, ◌∙◌, arith}
use Rattle.std.proofs.lemmas.Bool.{false≢true}
use Rattle.list_words.specs.Order.{Ascends}
use Rattle.fact_kinds.specs.Facts.{goes_first}
use Rattle.fact_kinds.proofs.KeyOrder.{strict_goes_first}
use Rattle.ldar_law.proofs.Adjacent.{alone, one_in_front, out_of_order}
use Rattle.ldar_law.proofs.key_order.are_in_key_order.Goals as goal

pub loop-place-init : goal.loop-place-init
loop-place-init c = alone goes_first c.args.facts.now (length c.args.facts.now - 1) (omega arith)

pub loop-place-preserved : goal.loop-place-preserved
loop-place-preserved c =
    one_in_front goes_first strict_goes_first c.args.facts.now c.loop-place.place c.index-facts-place.result c.index-facts-place-in-loop-place.result
    c.loop-place-test.true (omega arith) (sym c.precedes.ensures.value ∙ c.if-not-precedes.false) c.loop-place.invariant

pub returns-then-not-precedes : goal.returns-then-not-precedes
returns-then-not-precedes c = record {
  value = (
    λ no. absurd (false≢true no),
    λ up. absurd (false≢true (sym c.if-not-precedes.true ∙ c.precedes.ensures.value
        ∙ out_of_order goes_first c.args.facts.now c.loop-place.place c.index-facts-place.result
        c.index-facts-place-in-loop-place.result c.loop-place-test.true (omega arith) up)),
  );
}

pub returns : goal.returns
returns c =
    let first : c.loop-place.place - 1 ≡ 0 = omega arith in
    record { value = (λ yes. subst (λ n. Ascends goes_first (drop n c.args.facts.now)) first c.loop-place.invariant, λ up. refl) }
