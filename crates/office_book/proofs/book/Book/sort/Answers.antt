use Rattle.std.proofs.Common.{◌≡◌, ◌≢◌, ◌<◌, [], List, length, take, refl, sym, ◌∙◌, ap, subst, arith}
use Rattle.std.specs.Prelude.{slice_set}
use Rattle.std.proofs.lemmas.List.{take_all}
use Rattle.fact_kinds.specs.declared.batch.Batch.{Batch}
use Rattle.ldar_journal.specs.Image.{batches_of}
use Rattle.ldar_law.specs.declared.reply.Reply.{Reply}
use Rattle.ldar_law.specs.declared.request.Request.{Request}
use Rattle.office_book.specs.Grouped.{IsSorted}
use Rattle.office_book.proofs.GroupLemmas.{sorted_none, sorted_at, one_told, more_within, asks_batch, alike_before, length_set}
use Rattle.office_book.proofs.book.Book.sort.Goals as goal

pub loop-place-init : goal.loop-place-init
loop-place-init g c =
    let history = batches_of c.args.self.now.frames in
    let none = c.new-batches.ensures.items in
    let long = ap length none in
    record {
      sorted = subst (λ (l : List Batch). IsSorted history [] [] l 0) (sym none) (sorted_none history c.requires.may_come);
      few = omega arith;
      before = omega arith;
      each = refl;
    }

pub told-requires-clause-alike : goal.told-requires-clause-alike
told-requires-clause-alike g c =
    alike_before (batches_of c.args.self.now.frames) c.args.requests.now c.loop-place.place c.loop-place.batches.items c.requires.alike
    (omega (arith, c.loop-place-test.true)) c.loop-place.invariant.sorted.adds

pub told-requires-clause-may_come : goal.told-requires-clause-may_come
told-requires-clause-may_come g c = c.loop-place.invariant.sorted.may_come

pub loop-place-preserved : goal.loop-place-preserved
loop-place-preserved g c =
    let history = batches_of c.args.self.now.frames in
    let was = c.loop-place.invariant in
    let reply = c.in_ok-reply.reply in
    let replies = c.loop-place.replies in
    let old = c.loop-place.batches.items in
    let new = c.told.new.others.items in
    let i = c.loop-place.place in
    let first = c.loop-place.first in
    let more = c.more_before-first.result in
    let told = c.in_ok-reply.ensures.told in
    let same = c.deref.ensures.value in
    let none = λ (empty : new ≡ []). c.more_before-first.ensures.none (same ∙ empty) in
    let some = λ (full : new ≢ []). c.more_before-first.ensures.some (λ empty. full (sym same ∙ empty)) in
    let long = one_told history c.in-Sync.batch old new reply told in
    let within : i < length c.args.requests.now = omega (arith, c.loop-place-test.true) in
    let room : i < length replies = omega (arith, was.each, c.requires.each) in
    record {
      sorted = sorted_at history c.args.requests.now i c.index-requests-place.result c.in-Sync.batch replies reply old new first more room within
          c.index-requests-place.is c.in-Sync.is was.sorted told none some;
      few = omega arith;
      before = more_within new first more i was.before none some;
      each = length_set replies i reply ∙ was.each;
    }

pub returns-clause-sorted : goal.returns-clause-sorted
returns-clause-sorted g c =
    let was = c.loop-place.invariant in
    let n = c.loop-place.place in
    let all = take_all n c.args.requests.now (omega (arith, c.loop-place-test.false)) in
    let replies = take_all n c.loop-place.replies (omega (arith, c.loop-place-test.false, was.each, c.requires.each)) in
    subst (λ (l : List Request). IsSorted (batches_of c.args.self.now.frames) l c.loop-place.replies c.loop-place.batches.items c.loop-place.first) all
    (subst (λ (l : List Reply). IsSorted (batches_of c.args.self.now.frames) (take n c.args.requests.now) l c.loop-place.batches.items c.loop-place.first) replies was.sorted)
