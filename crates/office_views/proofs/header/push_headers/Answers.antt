use Rattle.std.proofs.Common.{◌<◌, ◌≤◌, [], ◌∷◌, length, take, sym, ap, subst, arith}
use Rattle.std.proofs.lemmas.List.{take_more}
use Rattle.std.proofs.lemmas.List.Folds.{length-flat_map-take}
use Rattle.list_words.proofs.Members.{all_append}
use Rattle.office_views.proofs.HeaderLemmas.{headers_pushed, stated_more}
use Rattle.office_views.proofs.header.push_headers.Goals as goal
use Rattle.fact_kinds.specs.declared.limits.TheConstants.{BATCH_FACTS}

pub push_reserved-requires : goal.push_reserved-requires
push_reserved-requires c = omega (arith, c.loop-batch.invariant.long, c.loop-batch.invariant.room)

pub overflow_add-next : goal.overflow_add-next
overflow_add-next c =
    let batches = c.args.batches.now in
    let batch = c.batch-item.result in
    let within = length-flat_map-take (λ b. b.facts) batches c.loop-batch.batch-index batch c.loop-batch-test.true in
    let own = ap (λ b. length b.facts) c.batch-item.is in
    let counted = ap length c.as_slice-count.ensures.value in
    omega (arith, within, own, counted, c.loop-batch.invariant.next, c.requires.fits)

pub loop-batch-preserved : goal.loop-batch-preserved
loop-batch-preserved c =
    let batches = c.args.batches.now in
    let i = c.loop-batch.batch-index in
    let batch = c.batch-item.result in
    let was = c.loop-batch.invariant in
    let within = c.loop-batch-test.true in
    let counted = ap length c.as_slice-count.ensures.value in
    record {
      pushed = headers_pushed c.args.headers.now.items c.loop-batch.headers.items c.push_reserved.new.self.items c.args.first c.loop-batch.next
          (length c.as_slice-count.result.now) batches i batch within c.batch-item.is was.pushed was.next counted c.push_reserved.ensures.items;
      next = omega (arith, was.next, counted, stated_more batches i batch within c.batch-item.is);
      long = omega (arith, was.long, c.push_reserved.ensures.len);
      room = omega (arith, was.room, c.push_reserved.ensures.capacity);
      filled = rw (take_more batches i batch within, sym c.batch-item.is) (all_append _ (take i batches) (batch ∷ []) was.filled
          (subst (λ fs. (0 < length fs) × (length fs ≤ BATCH_FACTS)) c.as_slice-count.ensures.value c.as_slice-count.ensures.in_range, tt));
    }
