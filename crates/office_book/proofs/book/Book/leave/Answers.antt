use Rattle.std.proofs.Common.{◌≡◌, ◌<◌, List, length, take, ◌∙◌, subst, arith}
use Rattle.std.proofs.lemmas.List.{take_all}
use Rattle.ldar_journal.specs.Image.{batches_of}
use Rattle.ldar_law.specs.declared.reply.Reply.{Reply}
use Rattle.ldar_law.specs.declared.request.Request.{Request}
use Rattle.office_book.specs.Grouped.{IsUnwritten}
use Rattle.office_book.proofs.GroupLemmas.{unwritten_none, unwritten_at, length_set}
use Rattle.office_book.proofs.book.Book.leave.Goals as goal

pub loop-place-preserved : goal.loop-place-preserved
loop-place-preserved g c =
    let was = c.loop-place.invariant in
    let i = c.loop-place.place in
    let replies = c.loop-place.replies in
    let reply = c.unwritten-reply.result in
    let within : i < length c.args.requests.now = omega (arith, c.loop-place-test.true) in
    let room : i < length replies = omega (arith, was.each, c.requires.each) in
    record {
      unwritten = unwritten_at (batches_of c.args.self.now.frames) c.args.requests.now i c.index-requests-place.result c.in-Sync.batch replies reply
          room within c.index-requests-place.is c.in-Sync.is was.unwritten c.unwritten-reply.ensures.serves c.unwritten-reply.ensures.ruled;
      each = length_set replies i reply ∙ was.each;
    }

pub returns : goal.returns
returns g c =
    let was = c.loop-place.invariant in
    let n = c.loop-place.place in
    let history = batches_of c.args.self.now.frames in
    let all = take_all n c.args.requests.now (omega (arith, c.loop-place-test.false)) in
    let replies = take_all n c.loop-place.replies (omega (arith, c.loop-place-test.false, was.each, c.requires.each)) in
    record {
      unwritten = subst (λ (l : List Request). IsUnwritten history l c.loop-place.replies) all
          (subst (λ (l : List Reply). IsUnwritten history (take n c.args.requests.now) l) replies was.unwritten);
    }
