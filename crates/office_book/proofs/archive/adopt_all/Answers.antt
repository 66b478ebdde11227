use Rattle.std.proofs.Common.{List, sym, subst}
use Rattle.fact_kinds.specs.declared.batch.Batch.{Batch}
use Rattle.ldar_law.specs.Machine.{IsNew}
use Rattle.office_book.proofs.HistoryLemmas.{passes_at, new_at, next_spare, new_identity}
use Rattle.office_book.proofs.archive.adopt_all.Goals as goal

pub adopt-requires-clause-roomy : goal.adopt-requires-clause-roomy
adopt-requires-clause-roomy g c =
    let was = c.loop-batch.invariant in
    rw was.spare (next_spare c.args.views.now.spare c.args.batches.now c.loop-batch.batch-index c.batch-item.result c.requires.roomy c.loop-batch-test.true
    c.batch-item.is)

pub adopt-requires-clause-passes : goal.adopt-requires-clause-passes
adopt-requires-clause-passes g c =
    let was = c.loop-batch.invariant in
    rw was.adopted (passes_at c.args.views.now.adopted c.args.batches.now c.loop-batch.batch-index c.batch-item.result c.loop-batch-test.true
    c.batch-item.is c.requires.may_come.ruly)

pub adopt-requires-clause-new_identity : goal.adopt-requires-clause-new_identity
adopt-requires-clause-new_identity g c =
    let was = c.loop-batch.invariant in
    rw was.adopted (new_at c.args.views.now.adopted c.args.batches.now c.loop-batch.batch-index c.batch-item.result c.loop-batch-test.true c.batch-item.is
    c.requires.may_come.kept)

pub push-requires-clause-is_new : goal.push-requires-clause-is_new
push-requires-clause-is_new g c =
    let was = c.loop-batch.invariant in
    let is_new = new_at c.args.views.now.adopted c.args.batches.now c.loop-batch.batch-index c.batch-item.result c.loop-batch-test.true c.batch-item.is
    c.requires.may_come.kept in
    rw c.identity.ensures.value (new_identity c.loop-batch.views.adopted c.loop-batch.positions.identities c.batch-item.result was.known
    (subst (λ (l : List Batch). IsNew l c.batch-item.result) (sym was.adopted) is_new))
