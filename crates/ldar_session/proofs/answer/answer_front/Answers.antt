use Rattle.std.proofs.Common.{◌≤◌, [], ◌∷◌, take, drop, false, inl, inr, refl, sym, subst, arith}
use Rattle.ldar_session.specs.Served.{clock_beside}
use Rattle.ldar_session.specs.Speech.{AsksEach, HasAnswer}
use Rattle.ldar_session.proofs.ItemLemmas.{group_served, part_served}
use Rattle.ldar_session.proofs.TalkLemmas.{talk_away, talk_none, talk_says, unasked_of}
use Rattle.ldar_session.proofs.answer.answer_front.Goals as goal

-- out of memory: nothing was passed on
pub returns-in_default-clause-talk : goal.returns-in_default-clause-talk
returns-in_default-clause-talk g c =
    let clock_of = clock_beside g.O.Beside.Disk.clock g.O.Office.beside_of in (
      [],
      c.args.bytes.now,
      [],
      talk_none (HasAnswer g.P.Protocol.speech) g.O.Office.led clock_of g.met.O.Office.stays c.args.office.now (g.K.Sink.pieces c.args.sink.now),
      refl,
      inl (record { closing = false; are = tt; fits = omega arith; fault = inr refl }),
    )

-- all was passed on, and all text was written
pub returns-in-Ok-answer_group-clause-talk : goal.returns-in-Ok-answer_group-clause-talk
returns-in-Ok-answer_group-clause-talk g c =
    let p = g.P.Protocol.speech in
    let bytes = c.args.bytes.now in
    let group = c.in-Ok.group in
    let is = c.in-Ok.ensures.value in
    let in_front = is.in_front in
    let asks = subst (λ l. AsksEach p group.closing in_front.items l) (sym c.deref.ensures.value) in_front.asks in
    let talk = c.in-Ok-answer_group.ensures.talk in_front.items asks in
    let all = group_served p bytes group.requests.items group.closing group.used in_front talk.0 talk.4.0 in (
      talk.0,
      drop group.used bytes,
      talk.1,
      talk.2,
      all.0,
      record {
        said = talk.4.1;
        are = talk.3;
        some = omega (arith, all.1, is.some);
        fits = omega (arith, all.1, is.fits);
        answers = omega (arith, all.1, c.len.ensures, group.requests.ok);
        within = in_front.within;
        behind = refl;
      },
    )

-- a part of the text may not be written, or nothing was passed on
pub returns-in-Asks-clause-talk : goal.returns-in-Asks-clause-talk
returns-in-Asks-clause-talk g c =
    let p = g.P.Protocol.speech in
    let bytes = c.args.bytes.now in
    let group = c.in-Ok.group in
    let is = c.in-Ok.ensures.value in
    let in_front = is.in_front in
    let asks = subst (λ l. AsksEach p group.closing in_front.items l) (sym c.deref.ensures.value) in_front.asks in
    let talk = c.in-Err.ensures.talk in_front.items asks in
    let part = part_served p bytes group.requests.items group.closing group.used in_front talk.0 talk.4 in (
      talk.0,
      part.0,
      talk.1,
      talk.2,
      part.1,
      inl (record { closing = group.closing; are = talk.3; fits = omega (arith, part.2, is.fits); fault = c.in-Err.ensures.only }),
    )

-- the answer to an item that is not passed on was written
pub returns-in-Ok-put_all-clause-talk : goal.returns-in-Ok-put_all-clause-talk
returns-in-Ok-put_all-clause-talk g c =
    let clock_of = clock_beside g.O.Beside.Disk.clock g.O.Office.beside_of in
    let unasked = c.in-Says.unasked in
    let puts = c.in-Ok-put_all.ensures.puts in
    let le = subst (λ disk. g.O.Beside.Disk.clock c.beside.result.now ≤ g.O.Beside.Disk.clock disk) c.beside.ensures.value (omega arith) in
    let is = rw c.in-Says.is at c.requires.first in
    let talk = talk_says g.P.Protocol.speech g.O.Office.led clock_of g.met.O.Office.stays c.args.office.now c.args.bytes.now (g.K.Sink.pieces c.args.sink.now)
    (g.K.Sink.pieces c.put_all.new.sink) puts.0 puts.1 c.deref-in-Says.result.now (g.O.Beside.Disk.clock c.beside.result.now) puts.2 puts.3 puts.5 le unasked is
    c.deref-in-Says.ensures.value in (
      unasked_of (take unasked.used c.args.bytes.now) unasked.text.items ∷ [],
      drop unasked.used c.args.bytes.now,
      puts.1,
      talk.0,
      talk.1,
      record {
        said = puts.4;
        are = (is.answers, tt);
        some = omega arith;
        fits = omega (arith, c.requires.some);
        answers = refl;
        within = is.within;
        behind = refl;
      },
    )

-- a prefix of the answer to an item that is not passed on was written
pub returns-in-Says-clause-talk : goal.returns-in-Says-clause-talk
returns-in-Says-clause-talk g c =
    let clock_of = clock_beside g.O.Beside.Disk.clock g.O.Office.beside_of in
    let unasked = c.in-Says.unasked in
    let puts = c.in-Err-put_all.ensures.puts in
    let le = subst (λ disk. g.O.Beside.Disk.clock c.beside.result.now ≤ g.O.Beside.Disk.clock disk) c.beside.ensures.value (omega arith) in
    let is = rw c.in-Says.is at c.requires.first in
    let talk = talk_says g.P.Protocol.speech g.O.Office.led clock_of g.met.O.Office.stays c.args.office.now c.args.bytes.now (g.K.Sink.pieces c.args.sink.now)
    (g.K.Sink.pieces c.put_all.new.sink) puts.0 puts.1 c.deref-in-Says.result.now (g.O.Beside.Disk.clock c.beside.result.now) puts.2 puts.3 puts.5 le unasked is
    c.deref-in-Says.ensures.value in (
      unasked_of (take unasked.used c.args.bytes.now) unasked.text.items ∷ [],
      drop unasked.used c.args.bytes.now,
      puts.1,
      talk.0,
      talk.1,
      inl (record { closing = unasked.closing; are = (is.answers, tt); fits = omega (arith, c.requires.some); fault = inl refl }),
    )

-- the answer to refused bytes was written
pub returns-in-Ok-put_all-2-clause-talk : goal.returns-in-Ok-put_all-2-clause-talk
returns-in-Ok-put_all-2-clause-talk g c =
    let clock_of = clock_beside g.O.Beside.Disk.clock g.O.Office.beside_of in
    let text = c.in-Away.text in
    let puts = c.in-Ok-put_all-2.ensures.puts in
    let le = subst (λ disk. g.O.Beside.Disk.clock c.beside-in-Away.result.now ≤ g.O.Beside.Disk.clock disk) c.beside-in-Away.ensures.value (omega arith) in
    let is = rw c.in-Away.is at c.requires.first in
    let talk = talk_away g.P.Protocol.speech g.O.Office.led clock_of g.met.O.Office.stays c.args.office.now c.args.bytes.now (g.K.Sink.pieces c.args.sink.now)
    (g.K.Sink.pieces c.put_all-in-Away.new.sink) puts.0 puts.1 c.deref-in-Away.result.now (g.O.Beside.Disk.clock c.beside-in-Away.result.now) puts.2 puts.3 puts.5 le text.items is
    c.deref-in-Away.ensures.value in (
      unasked_of c.args.bytes.now text.items ∷ [],
      [],
      puts.1,
      talk.0,
      talk.1,
      inr (record { last = unasked_of c.args.bytes.now text.items; served_are = refl; away = talk.2; said = inl (refl, puts.4) }),
    )

-- a prefix of the answer to refused bytes was written
pub returns-clause-talk : goal.returns-clause-talk
returns-clause-talk g c =
    let clock_of = clock_beside g.O.Beside.Disk.clock g.O.Office.beside_of in
    let text = c.in-Away.text in
    let puts = c.in-Err-put_all-2.ensures.puts in
    let le = subst (λ disk. g.O.Beside.Disk.clock c.beside-in-Away.result.now ≤ g.O.Beside.Disk.clock disk) c.beside-in-Away.ensures.value (omega arith) in
    let is = rw c.in-Away.is at c.requires.first in
    let talk = talk_away g.P.Protocol.speech g.O.Office.led clock_of g.met.O.Office.stays c.args.office.now c.args.bytes.now (g.K.Sink.pieces c.args.sink.now)
    (g.K.Sink.pieces c.put_all-in-Away.new.sink) puts.0 puts.1 c.deref-in-Away.result.now (g.O.Beside.Disk.clock c.beside-in-Away.result.now) puts.2 puts.3 puts.5 le text.items is
    c.deref-in-Away.ensures.value in (
      unasked_of c.args.bytes.now text.items ∷ [],
      [],
      puts.1,
      talk.0,
      talk.1,
      inr (record { last = unasked_of c.args.bytes.now text.items; served_are = refl; away = talk.2; said = inr refl }),
    )
