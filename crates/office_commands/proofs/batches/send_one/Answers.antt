use Rattle.std.proofs.Common.{◌≡◌, inl, inr, refl, sym, subst, ◌∙◌, length, ◌≤◌, arith, ap}
use Rattle.ldar_law.specs.declared.request.Request.TheVariants.{Sync}
use Rattle.ldar_law.specs.Replies.{reply_text}
use Rattle.ldar_session.specs.Served.{clock_beside, texts_of}
use Rattle.ldar_ports.specs.Sink.{bytes_of}
use Rattle.office_book.specs.Safe.{Leads, moment_of}
use Rattle.office_commands.proofs.SendingLemmas.{call_of_batch, sent_in, sent_put, sent_unsaid, sent_one, ends_one, text_of_one, unsaid_short}
use Rattle.office_commands.proofs.batches.send_one.Goals as goal

-- the reply is one to a batch
pub if_receipt-requires : goal.if_receipt-requires
if_receipt-requires g c =
    let d = g.D.Disk in
    let asked = c.ask-reply.ensures.value in record {
      of_batch = call_of_batch (moment_of d.clock d.faults c.args.book.now) (moment_of d.clock d.faults c.ask-reply.new.self) asked.0 c.args.batch
          c.ask-reply.result asked.1.runs asked.2 asked.3;
    }

pub if_receipt-requires-in-Err : goal.if_receipt-requires-in-Err
if_receipt-requires-in-Err g c =
    let d = g.D.Disk in
    let asked = c.ask-reply.ensures.value in record {
      of_batch = call_of_batch (moment_of d.clock d.faults c.args.book.now) (moment_of d.clock d.faults c.ask-reply.new.self) asked.0 c.args.batch
          c.ask-reply.result asked.1.runs asked.2 asked.3;
    }

-- no room for the line
pub returns-in_default-clause-talk : goal.returns-in_default-clause-talk
returns-in_default-clause-talk g c =
    let d = g.D.Disk in
    let asked = c.ask-reply.ensures.value in
    let call = asked.0 in
    let served = sent_in call.turns in
    let long = ap length (text_of_one call c.ask-reply.result asked.3) in (
      served,
      texts_of served,
      sent_unsaid (Leads d.content d.left d.clock d.name d.faults) (clock_beside d.clock (λ book. book.disk)) c.args.book.now c.ask-reply.new.self call (g.K.Sink.pieces c.args.sink.now) asked.1,
      (
        c.ask-reply.result,
        record { sent = sent_one call (Sync c.args.batch) c.ask-reply.result asked.2 asked.3; of_last = omega (arith, long) },
      ),
    )

-- the line is written
pub returns-in-Ok-put_all-clause-talk : goal.returns-in-Ok-put_all-clause-talk
returns-in-Ok-put_all-clause-talk g c =
    let d = g.D.Disk in
    let asked = c.ask-reply.ensures.value in
    let call = asked.0 in
    let reply = c.ask-reply.result in
    let puts = c.in-Ok-put_all.ensures.puts in
    let line : reply_text reply ≡ c.deref.result.now = sym c.in-Ok.ensures.value ∙ sym c.deref.ensures.value in
    let late = subst (λ disk. call.end.clock ≤ d.clock disk) (sym c.disk.ensures.value) asked.4 in
    let le = subst (λ disk. d.clock c.disk.result.now ≤ d.clock disk) c.disk.ensures.value (omega arith) in
    let kind = call_of_batch (moment_of d.clock d.faults c.args.book.now) (moment_of d.clock d.faults c.ask-reply.new.self) call c.args.batch reply
    asked.1.runs asked.2 asked.3 in (
      sent_in call.turns,
      puts.1,
      sent_put (Leads d.content d.left d.clock d.name d.faults) (clock_beside d.clock (λ book. book.disk)) c.args.book.now c.ask-reply.new.self call reply (g.K.Sink.pieces c.args.sink.now)
          (g.K.Sink.pieces c.put_all.new.sink) puts.0 puts.1 (d.clock c.disk.result.now) asked.1 asked.3 puts.2 (line ∙ puts.3) puts.5 late le,
      ends_one call (Sync c.args.batch) reply puts.1 (g.K.Sink.faults c.args.sink.now) (g.K.Sink.faults c.put_all.new.sink) _ c.if_receipt.result asked.2
          asked.3 kind c.if_receipt.ensures.value (unsaid_short (reply_text reply) (bytes_of puts.0) puts.1 (line ∙ puts.3)) (inl (refl, puts.4)),
    )

-- a front of it is written
pub returns-clause-talk : goal.returns-clause-talk
returns-clause-talk g c =
    let d = g.D.Disk in
    let asked = c.ask-reply.ensures.value in
    let call = asked.0 in
    let reply = c.ask-reply.result in
    let puts = c.in-Err.ensures.puts in
    let line : reply_text reply ≡ c.deref.result.now = sym c.in-Ok.ensures.value ∙ sym c.deref.ensures.value in
    let late = subst (λ disk. call.end.clock ≤ d.clock disk) (sym c.disk.ensures.value) asked.4 in
    let le = subst (λ disk. d.clock c.disk.result.now ≤ d.clock disk) c.disk.ensures.value (omega arith) in
    let kind = call_of_batch (moment_of d.clock d.faults c.args.book.now) (moment_of d.clock d.faults c.ask-reply.new.self) call c.args.batch reply
    asked.1.runs asked.2 asked.3 in (
      sent_in call.turns,
      puts.1,
      sent_put (Leads d.content d.left d.clock d.name d.faults) (clock_beside d.clock (λ book. book.disk)) c.args.book.now c.ask-reply.new.self call reply (g.K.Sink.pieces c.args.sink.now)
          (g.K.Sink.pieces c.put_all.new.sink) puts.0 puts.1 (d.clock c.disk.result.now) asked.1 asked.3 puts.2 (line ∙ puts.3) puts.5 late le,
      ends_one call (Sync c.args.batch) reply puts.1 (g.K.Sink.faults c.args.sink.now) (g.K.Sink.faults c.put_all.new.sink) _
          c.if_receipt-in-Err.result asked.2 asked.3 kind c.if_receipt-in-Err.ensures.value
          (unsaid_short (reply_text reply) (bytes_of puts.0) puts.1 (line ∙ puts.3)) (inr (refl, c.in-Err.ensures.cause)),
    )
