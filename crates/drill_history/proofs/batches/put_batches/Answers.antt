use Rattle.std.proofs.Common.{◌<◌, ◌+◌, ◌++◌, ◌∷◌, [], length, sym, ap, ◌∙◌, arith}
use Rattle.std.proofs.lemmas.Bool.{eqb-false}
use Rattle.fact_kinds.specs.declared.batch.Batch.{Batch}
use Rattle.drill_history.proofs.BatchLemmas.{next_batch}
use Rattle.drill_history.proofs.batches.put_batches.Goals as goal

pub loop-rest-preserved : goal.loop-rest-preserved
loop-rest-preserved c =
    let some = eqb-false (length c.loop-rest.rest.now) 0 (sym c.is_empty.ensures ∙ c.loop-rest-test.true) in
    let left : 0 < length c.loop-rest.rest.now = omega (arith, some) in
    let pushed = c.in_ok-push.ensures.items ∙ ap (λ (b : Batch). c.loop-rest.batches.items ++ b ∷ []) c.in_ok-batch.ensures.value in
    record {
      rest = next_batch c.args.handheld (c.len.result + 1) c.min.result c.loop-rest.rest.now c.split_at.result.0.now c.split_at.result.1.now
          c.loop-rest.batches.items c.push.new.self.items left c.min.ensures c.split_at.ensures.front c.split_at.ensures.back
          (omega (arith, c.len.ensures)) pushed
          ∙ c.loop-rest.invariant.rest;
      count = omega (arith, c.loop-rest.invariant.count, c.split_at.ensures.back_len, c.min.ensures, left, c.in_ok-push.ensures.len);
    }
