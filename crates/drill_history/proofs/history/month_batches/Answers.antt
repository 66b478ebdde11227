use Rattle.std.proofs.Common.{ap, ◌∙◌, arith}
use Rattle.drill_history.specs.Drill.{month_parts, month_batches, numbered}
use Rattle.drill_history.proofs.BatchLemmas.{one_more_month}
use Rattle.drill_history.proofs.history.month_batches.Goals as goal

pub loop-past-init : goal.loop-past-init
unfolding month_parts
loop-past-init c = record { made = c.new-batches.ensures.items; count = omega (arith, c.new-batches.ensures.len) }

pub loop-past-preserved : goal.loop-past-preserved
loop-past-preserved c = record {
  made = one_more_month c.args.seed c.args.size c.loop-past.past c.deref.result.now c.loop-past.batches.items c.put_batches.new.batches.items
      c.loop-past.invariant.made (c.deref.ensures.value ∙ c.in_ok-facts.ensures.value) c.in_ok-put_batches.ensures.value;
  count = omega (arith, c.loop-past.invariant.count, c.in_ok-put_batches.ensures.count, c.deref.ensures.len, c.in_ok-facts.ensures.count);
}

pub returns : goal.returns
unfolding month_batches
returns c = record { value = c.loop-past.invariant.made ∙ ap (λ n. numbered 1 1 (month_parts c.args.seed c.args.size n)) (omega (arith, c.loop-past-test.false, c.loop-past.auto.past-end)) }
