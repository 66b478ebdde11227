use Rattle.std.proofs.Common.{ℕ, List, [], ◌∷◌, ◌++◌, length, map, take, refl, sym, ◌∙◌, ap, subst, arith}
use Rattle.std.proofs.Math.Seq.{take-length}
use Rattle.std.proofs.lemmas.Iterator.Adapters.{YieldsList-from_vec}
use Rattle.std.proofs.lemmas.Iterator.Consumers.{YieldsList-turn, YieldsList-end}
use Rattle.std.proofs.lemmas.List.{length_push}
use Rattle.fact_kinds.specs.declared.batch.Batch.{Batch}
use Rattle.ldar_law.specs.declared.request.Request.TheVariants.{Sync}
use Rattle.office_book.specs.Safe.{Leads}
use Rattle.office_book.specs.SafeLaws.{leads_stays, leads_joins}
use Rattle.office_commands.specs.Sending.{AllReceipted, IsSent}
use Rattle.ldar_session.specs.Served.{Talk, clock_beside}
use Rattle.office_commands.proofs.FaultLemmas.{rose_since}
use Rattle.office_commands.proofs.SendingLemmas.{ends_at, all_at}
use Rattle.ldar_session.proofs.TalkLemmas.{talk_none, talk_more}
use Rattle.office_commands.proofs.batches.send.Goals as goal

-- at first nothing is served
pub loop-batch-init : goal.loop-batch-init
loop-batch-init g c = let d = g.D.Disk in (
  (
    [],
    talk_none IsSent (Leads d.content d.left d.clock d.name d.faults) (clock_beside d.clock (λ book. book.disk))
        (leads_stays d.content d.left d.clock d.name d.faults) c.args.book.now (g.K.Sink.pieces c.args.sink.now),
    record { said = refl; asked = refl; receipts = tt },
  ),
  omega arith,
)

-- one more is receipted
pub loop-batch-preserved : goal.loop-batch-preserved
loop-batch-preserved g c =
    let d = g.D.Disk in
    let led = Leads d.content d.left d.clock d.name d.faults in
    let pieces = g.K.Sink.pieces in
    let turn = YieldsList-turn (YieldsList-from_vec c.args.batches.items (cc) (cc)) c.loop-batch.yielded _ c.loop-batch.yielded_by _ c.next.new.self
    c.in-Some.batch c.in-Some.is c.next.ensures.steps in
    let so_far = c.loop-batch.invariant.0 in
    let talk = c.in-Done.ensures.talk in
    let said = talk.3.said in (
      (
        so_far.0 ++ talk.0,
        talk_more IsSent led (clock_beside d.clock (λ book. book.disk)) (leads_joins d.content d.left d.clock d.name d.faults) c.args.book.now c.loop-batch.book c.send_one.new.book
            (pieces c.args.sink.now) (pieces c.loop-batch.sink) (pieces c.send_one.new.sink) so_far.0 talk.0 [] so_far.1
            (subst (λ (l : List ℕ). Talk IsSent led (clock_beside d.clock (λ book. book.disk)) c.loop-batch.book c.send_one.new.book (pieces c.loop-batch.sink) (pieces c.send_one.new.sink)
            talk.0 l) said talk.2),
        subst (λ (n : ℕ). AllReceipted (map Sync (take n c.args.batches.items)) (so_far.0 ++ talk.0) [])
            (sym (length_push c.loop-batch.yielded c.in-Some.batch))
            (all_at c.args.batches.items (length c.loop-batch.yielded) c.in-Some.batch so_far.0 talk.0 turn.0 turn.1 so_far.2
            (subst (λ (l : List ℕ). AllReceipted (Sync c.in-Some.batch ∷ []) talk.0 l) said talk.3)),
      ),
      omega (arith, c.loop-batch.invariant.1, c.send_one.ensures.write_count),
    )

-- one is not, or its line was not put
pub returns-in_default : goal.returns-in_default
returns-in_default g c =
    let d = g.D.Disk in
    let pieces = g.K.Sink.pieces in
    let faults = g.K.Sink.faults in
    let turn = YieldsList-turn (YieldsList-from_vec c.args.batches.items (cc) (cc)) c.loop-batch.yielded _ c.loop-batch.yielded_by _ c.next.new.self
    c.in-Some.batch c.in-Some.is c.next.ensures.steps in
    let so_far = c.loop-batch.invariant.0 in
    let talk = c.send_one.ensures.talk in
    let later = c.loop-batch.invariant.1 in record {
      talk = (
        so_far.0 ++ talk.0,
        talk.1,
        talk_more IsSent (Leads d.content d.left d.clock d.name d.faults) (clock_beside d.clock (λ book. book.disk))
            (leads_joins d.content d.left d.clock d.name d.faults) c.args.book.now c.loop-batch.book c.send_one.new.book
            (pieces c.args.sink.now) (pieces c.loop-batch.sink) (pieces c.send_one.new.sink) so_far.0 talk.0 talk.1 so_far.1 talk.2,
        ends_at c.send_one.result c.args.batches.items (length c.loop-batch.yielded) c.in-Some.batch so_far.0 talk.0 talk.1
            (faults c.args.sink.now) (faults c.loop-batch.sink) (faults c.send_one.new.sink) turn.0 turn.1 c.in_default.not-Done later so_far.2 talk.3,
      );
      write_fault = λ is. rose_since (faults c.args.sink.now) (faults c.loop-batch.sink) (faults c.send_one.new.sink) later
          (c.send_one.ensures.write_fault is);
      write_count = omega (arith, later, c.send_one.ensures.write_count);
    }

-- each is receipted
pub returns-clause-talk : goal.returns-clause-talk
returns-clause-talk g c =
    let batches = c.args.batches.items in
    let end = YieldsList-end (YieldsList-from_vec batches (cc) (cc)) c.loop-batch.yielded _ c.loop-batch.yielded_by _ c.next.new.self c.in-None.is c.next.ensures.steps in
    let so_far = c.loop-batch.invariant.0 in (
      so_far.0,
      [],
      so_far.1,
      subst (λ (l : List Batch). AllReceipted (map Sync l) so_far.0 []) (ap (λ (n : ℕ). take n batches) end.1 ∙ take-length batches) so_far.2,
    )
