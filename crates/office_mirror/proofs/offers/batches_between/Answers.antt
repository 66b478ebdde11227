use Rattle.std.proofs.Common.{[], ◌∷◌, ◌++◌, ap, ◌∙◌, arith}
use Rattle.ldar_journal.specs.Image.{batches_of}
use Rattle.office_mirror.proofs.OfferLemmas.{one_more}
use Rattle.office_mirror.proofs.offers.batches_between.Goals as goal

pub loop-held-preserved : goal.loop-held-preserved
loop-held-preserved g c =
    let low = c.loop-held.invariant.1 in
    let batch = c.in_ok-batch_at.field-0 in (
      c.in_ok-push.ensures.items ∙ ap (λ l. l ++ batch ∷ []) c.loop-held.invariant.0
          ∙ one_more (batches_of c.args.book.now.frames) c.args.start c.loop-held.held batch low c.in_ok-batch_at.ensures.value,
      omega (arith, low),
    )
