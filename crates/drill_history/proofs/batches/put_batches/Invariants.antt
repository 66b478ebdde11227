use Rattle.std.proofs.Common.{◌≡◌, ◌+◌, ◌≤◌, ◌++◌, length, vec_len}
use Rattle.list_words.specs.Parts.{cut}
use Rattle.fact_kinds.specs.declared.limits.TheConstants.{BATCH_FACTS}
use Rattle.drill_history.specs.Drill as spec
use Rattle.drill_history.proofs.batches.put_batches.Given as goal

abbrev pub invariant-loop-rest : goal.invariant-loop-rest
invariant-loop-rest l = record {
  rest : l.batches.items ++ spec.numbered l.handheld (length l.batches.items + 1) (cut BATCH_FACTS l.rest)
      ≡ l.fn.batches.items ++ spec.numbered l.handheld (length l.fn.batches.items + 1) (cut BATCH_FACTS l.facts);
  count : vec_len l.batches + length l.rest ≤ vec_len l.fn.batches + length l.facts;
}

abbrev pub decreases-loop-rest : goal.decreases-loop-rest
decreases-loop-rest l = length l.rest
