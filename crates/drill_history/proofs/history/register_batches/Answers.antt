use Rattle.std.proofs.Common.{ap, ◌∙◌, ◌+◌, ◌++◌, length}
use Rattle.list_words.specs.Parts.{cut}
use Rattle.fact_kinds.specs.declared.limits.TheConstants.{BATCH_FACTS}
use Rattle.drill_history.specs.Drill.{register_batches, numbered}
use Rattle.drill_history.proofs.history.register_batches.Goals as goal

pub returns : goal.returns
unfolding register_batches
returns c = record {
  value =
      c.in_ok-put_batches.ensures.value
      ∙ ap (λ bs. bs ++ numbered 0 (length bs + 1) (cut BATCH_FACTS c.deref.result.now)) c.new-batches.ensures.items
      ∙ ap (λ facts. numbered 0 1 (cut BATCH_FACTS facts)) (c.deref.ensures.value ∙ c.in_ok-register_facts.ensures.value);
}
