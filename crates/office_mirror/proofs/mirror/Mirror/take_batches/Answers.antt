use Rattle.std.proofs.Common.{◌≡◌, ◌+◌, ◌≤◌, Some, List, [], length, slice_get, refl, sym, subst, ◌∙◌}
use Rattle.std.proofs.lemmas.Option.{slice_get_read}
use Rattle.fact_kinds.specs.declared.batch.Batch.{Batch}
use Rattle.ldar_journal.specs.Image.{batches_of}
use Rattle.office_book.specs.SafeLaws.{leads_stays}
use Rattle.office_mirror.specs.Fronts.{IsReceiptAt}
use Rattle.office_mirror.specs.Taking.{IsTaken}
use Rattle.office_mirror.proofs.TakenLemmas.{goes_on, ends_here, ended_no_gap, all_taken, none_taken}
use Rattle.office_mirror.proofs.mirror.Mirror.take_batches.Goals as goal

pub loop-index-init : goal.loop-index-init
loop-index-init g c = (
  [],
  leads_stays g.D.Disk.content g.D.Disk.left g.D.Disk.clock g.D.Disk.name g.D.Disk.faults c.args.self.now,
  none_taken c.args.answer.now (batches_of c.args.self.now.frames),
)

pub loop-index-preserved : goal.loop-index-preserved
loop-index-preserved g c =
    let was = c.loop-index.invariant in
    let asked = c.ask-reply.ensures.value in
    let reply = c.ask-reply.result in
    let i = c.loop-index.index in
    let b = c.index-batches-index.result in
    let batches = c.as_slice-batches.result.now in
    let next = subst (λ (bs : List Batch). slice_get bs i ≡ Some b) c.as_slice-batches.ensures.value
    (slice_get_read batches (length batches) i b refl c.loop-index-test.true c.index-batches-index.is) in
    let receipt = subst (λ n. IsReceiptAt reply (n + i + 1)) c.from.ensures (c.is_receipt_at.ensures.yes c.if-not-is_receipt_at.false) in
    goes_on g.D.Disk.content g.D.Disk.left g.D.Disk.clock g.D.Disk.name g.D.Disk.faults c.args.answer.now i b reply c.args.self.now c.loop-index.self
    c.ask-reply.new.self was.0 asked.0 was.1 was.2 next asked.1 asked.2 receipt

pub returns-then-not-is_receipt_at-clause-value : goal.returns-then-not-is_receipt_at-clause-value
returns-then-not-is_receipt_at-clause-value g c =
    let was = c.loop-index.invariant in
    let asked = c.ask-reply.ensures.value in
    let reply = c.ask-reply.result in
    let i = c.loop-index.index in
    let b = c.index-batches-index.result in
    let batches = c.as_slice-batches.result.now in
    let next = subst (λ (bs : List Batch). slice_get bs i ≡ Some b) c.as_slice-batches.ensures.value
    (slice_get_read batches (length batches) i b refl c.loop-index-test.true c.index-batches-index.is) in
    let it = ends_here g.D.Disk.content g.D.Disk.left g.D.Disk.clock g.D.Disk.name g.D.Disk.faults c.args.answer.now i b reply c.args.self.now
    c.loop-index.self c.ask-reply.new.self was.0 asked.0 was.1 was.2 next asked.1 asked.2
    (λ is. c.is_receipt_at.ensures.no c.if-not-is_receipt_at.true (subst (λ n. IsReceiptAt reply (n + i + 1)) (sym c.from.ensures) is)) c.requires.near in (
      it.0,
      it.1,
      subst (IsTaken c.args.answer.now (length (batches_of c.args.self.now.frames)) (batches_of c.ask-reply.new.self.frames) it.0)
          (sym c.ended.ensures.value) it.2,
    )

pub returns-then-not-is_receipt_at-clause-no_gap : goal.returns-then-not-is_receipt_at-clause-no_gap
returns-then-not-is_receipt_at-clause-no_gap g c = λ start held is. ended_no_gap _ _ start held (sym c.ended.ensures.value ∙ is)

pub returns-clause-value : goal.returns-clause-value
returns-clause-value g c =
    let was = c.loop-index.invariant in
    let all = subst (λ (bs : List Batch). length bs ≤ c.loop-index.index) c.as_slice-batches.ensures.value c.loop-index-test.false in (
      was.0,
      was.1,
      (
        c.requires.near,
        all_taken c.args.answer.now c.loop-index.index (batches_of c.loop-index.self.frames) was.0 all was.2,
        c.held.ensures.value,
      ),
    )
