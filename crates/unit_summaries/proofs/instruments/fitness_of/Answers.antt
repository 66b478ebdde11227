use Rattle.std.proofs.Common.{◌≡◌, ℕ, None, cond, nat_eq, Some, sym, ap, ◌∙◌, arith}
use Rattle.fact_store.specs.Kept.{facts_in}
use Rattle.unit_summaries.specs.Rows.{slot_in}
use Rattle.unit_summaries.proofs.CostLemmas.{left_after, within_left}
use Rattle.unit_summaries.proofs.instruments.fitness_of.Goals as goal

pub returns-in_err-instrument-clause-counted : goal.returns-in_err-instrument-clause-counted
returns-in_err-instrument-clause-counted g c = λ pool among.
    let none : slot_in c.args.ready.now.items c.args.number ≡ None = sym c.in_default.ensures.value in
    omega (
      arith,
      c.made_ready.ensures.counted,
      within_left (facts_in c.args.lists.now.store.now) c.args.ready.now.items c.args.number pool none among,
    )

pub returns-in_err-make_slots-clause-counted : goal.returns-in_err-make_slots-clause-counted
returns-in_err-make_slots-clause-counted g c = λ pool among.
    let none : slot_in c.args.ready.now.items c.args.number ≡ None = sym c.in_default.ensures.value in
    omega (
      arith,
      c.made_ready.ensures.counted,
      within_left (facts_in c.args.lists.now.store.now) c.args.ready.now.items c.args.number pool none among,
    )

pub returns-clause-counted : goal.returns-clause-counted
returns-clause-counted g c = λ pool among.
    let none : slot_in c.args.ready.now.items c.args.number ≡ None = sym c.in_default.ensures.value in
    omega (
      arith,
      c.made_ready.ensures.counted,
      within_left (facts_in c.args.lists.now.store.now) c.args.ready.now.items c.args.number pool none among,
    )

pub returns-clause-left : goal.returns-clause-left
returns-clause-left g c = λ pool among.
    let none : slot_in c.args.ready.now.items c.args.number ≡ None = sym c.in_default.ensures.value in
    let old = c.args.ready.now.items in
    let new = c.put_slot.new.slots.items in
    let made = c.in_ok-instrument.instrument in
    let updates : (n : ℕ) → slot_in new n ≡ cond (nat_eq n c.args.number) (Some made) (slot_in old n) =
    λ n. c.put_slot.ensures.value n ∙ ap (λ o. cond (nat_eq n c.args.number) (Some made) o) (c.make_slots.ensures.value n) in
    omega (
      arith,
      c.made_ready.ensures.counted,
      left_after (facts_in c.args.lists.now.store.now) old new c.args.number made updates pool none among,
    )
