use Rattle.std.proofs.Common.{ap, ◌∙◌, subst, arith}
use Rattle.fact_kinds.specs.Named as named
use Rattle.component_register.specs.Slots.{HasRow, no_slot}
use Rattle.component_register.proofs.HoldLemmas.{have_rows_more}
use Rattle.component_register.proofs.RowLemmas.{adds_on}
use Rattle.component_register.proofs.slots.make_slots.Goals as goal

pub loop-fact-preserved : goal.loop-fact-preserved
loop-fact-preserved c =
    let old = c.loop-fact.slots.items in
    let new = c.make_row.new.rows.items in
    record {
      adds = adds_on no_slot c.args.slots.now.items old new c.loop-fact.invariant.adds c.in_ok-make_row.ensures.adds;
      roomy = have_rows_more named.component_of c.args.facts.now c.loop-fact.fact-index c.fact-item.result no_slot old new (omega arith) c.fact-item.is
          c.loop-fact.invariant.roomy c.in_ok-make_row.ensures.adds
          (subst (λ n. HasRow n new) (c.component_of.ensures.value ∙ ap named.component_of (ap (λ s. s.body) c.fact.view_is)) c.in_ok-make_row.ensures.roomy);
    }
