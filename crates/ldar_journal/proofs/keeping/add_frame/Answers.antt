use Rattle.std.proofs.Common.{◌≡◌, ◌<◌, ◌++◌, ◌∷◌, [], List, length, take, refl, sym, ap, subst, append_assoc, arith}
use Rattle.fact_kinds.specs.declared.batch.Batch.{Batch}
use Rattle.ldar_journal.specs.Image.{batches_of}
use Rattle.ldar_journal.specs.Known.{IsKnown}
use Rattle.ldar_journal.proofs.KeepingLemmas.{known_more, refused, next_one, not_all, back_again}
use Rattle.ldar_journal.proofs.keeping.add_frame.Goals as goal

pub returns-in-None-clause-not_kept : goal.returns-in-None-clause-not_kept
returns-in-None-clause-not_kept c = λ none.
    let history = batches_of c.args.frames.now in
    let batches = c.args.batches.now in
    let i = c.loop-added.added in
    let batch = c.index-batches-added.result in
    let within : i < length batches = omega (arith, c.loop-added-test.true) in
    let next = next_one batches i batch within c.index-batches-added.is in (
      back_again history batches i c.args.positions.now.identities c.loop-added.positions.identities c.take_out.new.positions.identities c.args.facts
          c.loop-added.count c.requires.known (omega arith)
          c.loop-added.invariant.known (rw (c.in-None.ensures.not_kept refl).0 at c.take_out.ensures.value),
      not_all history batches i batch next (refused (history ++ take i batches) c.loop-added.positions.identities c.loop-added.count batch
          c.loop-added.invariant.known (c.in-None.ensures.not_kept refl).1),
    )

pub loop-added-preserved : goal.loop-added-preserved
loop-added-preserved c =
    let history = batches_of c.args.frames.now in
    let batches = c.args.batches.now in
    let i = c.loop-added.added in
    let batch = c.index-batches-added.result in
    let within : i < length batches = omega (arith, c.loop-added-test.true) in
    let next = next_one batches i batch within c.index-batches-added.is in
    let adds = c.in-Some.ensures.added in
    let known = known_more (history ++ take i batches) c.loop-added.positions.identities c.add_batch.new.positions.identities c.loop-added.count
    c.in-Some.more batch c.loop-added.invariant.known
    adds.is_new adds.added adds.count adds.fits in
    record {
      known = rw next (subst (λ (l : List Batch). IsKnown l c.add_batch.new.positions.identities c.in-Some.more)
          (append_assoc history (take i batches) (batch ∷ [])) known);
      room = omega (arith, adds.room, c.loop-added.invariant.room);
    }
