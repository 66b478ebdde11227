use Rattle.std.proofs.Common.{◌≡◌, ℕ, ◌+◌, List, [], ◌∷◌, ◌++◌, take, sym, ◌∙◌, ap, arith}
use Rattle.std.proofs.lemmas.List.{take_more}
use Rattle.fact_kinds.specs.declared.batch.Batch.{Batch}
use Rattle.ldar_journal.specs.Image.{IsBatch, spelling}
use Rattle.ldar_journal.proofs.FrameLemmas.{payload-push, AllByRecursion-push}
use Rattle.ldar_journal.proofs.prepared.payload_of.Goals as goal

pub loop-batch-preserved : goal.loop-batch-preserved
unfolding IsBatch spelling
loop-batch-preserved c =
    let so_far = take c.loop-batch.batch-index c.args.batches.now in
    let batch = c.batch-item.result in
    let more : take (c.loop-batch.batch-index + 1) c.args.batches.now ≡ so_far ++ batch ∷ [] =
    take_more c.args.batches.now c.loop-batch.batch-index batch (omega arith) ∙ ap (λ (b : Batch). so_far ++ b ∷ []) (sym c.batch-item.is) in
    let spells = c.in_ok-write_batch.ensures.spells in
    rw more (
      c.in_ok-write_batch.ensures.value ∙ ap (λ (l : List ℕ). l ++ spelling batch) c.loop-batch.invariant.0 ∙ sym (payload-push so_far batch),
      AllByRecursion-push IsBatch so_far batch c.loop-batch.invariant.1 spells.filled,
    )
