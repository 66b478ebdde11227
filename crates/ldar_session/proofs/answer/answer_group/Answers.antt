use Rattle.std.proofs.Common.{◌≤◌, ◌++◌, [], inl, inr, refl, sym, ap, subst, ◌∙◌, arith}
use Rattle.ldar_ports.specs.Sink.{bytes_of}
use Rattle.office_interface.specs.Asking.{replies_of}
use Rattle.ldar_session.specs.Served.{Talk, texts_of, clock_beside}
use Rattle.ldar_session.specs.Speech.{HasAnswer}
use Rattle.ldar_session.proofs.ItemLemmas.{answers_shown, are_answered, asked_each, have_answers, map-item-served_in, served_in, turns_of-served_in}
use Rattle.ldar_session.proofs.TalkLemmas.{talk_group, talk_none, talk_unsaid}
use Rattle.ldar_session.proofs.answer.answer_group.Goals as goal

-- nothing was passed on
pub returns-in_default-clause-talk : goal.returns-in_default-clause-talk
returns-in_default-clause-talk g c = λ items asks.
    let is = HasAnswer g.P.Protocol.speech in
    let clock_of = clock_beside g.O.Beside.Disk.clock g.O.Office.beside_of in
    let pieces = g.K.Sink.pieces c.args.sink.now in
    let none = talk_none is g.O.Office.led clock_of g.met.O.Office.stays c.args.office.now pieces in (
      [],
      [],
      subst (λ office. Talk is g.O.Office.led clock_of c.args.office.now office pieces pieces [] []) (sym c.in_default.ensures.unchanged) none,
      tt,
      inr refl,
    )

-- all was passed on, and no text was written
pub returns-in_default-text_of-clause-talk : goal.returns-in_default-text_of-clause-talk
returns-in_default-text_of-clause-talk g c = λ items asks.
    let p = g.P.Protocol.speech in
    let clock_of = clock_beside g.O.Beside.Disk.clock g.O.Office.beside_of in
    let asked = c.in-Ok.ensures.value in
    let call = asked.0 in
    let closing = c.args.closing in
    let each = asked_each p closing items c.args.requests.now call asks asked.2 in
    let served = served_in p closing items call.turns in
    let are = are_answered p closing items call.turns each in (
      served,
      texts_of served,
      talk_unsaid (HasAnswer p) g.O.Office.led clock_of c.args.office.now c.ask.new.office call (g.K.Sink.pieces c.args.sink.now) served asked.1
          (turns_of-served_in p closing items call.turns each) (have_answers p closing served are),
      are,
      inl (map-item-served_in p closing items call.turns each),
    )

-- all was passed on, and all text was written
pub returns-in-Ok-put_all-clause-talk : goal.returns-in-Ok-put_all-clause-talk
returns-in-Ok-put_all-clause-talk g c = λ items asks.
    let p = g.P.Protocol.speech in
    let clock_of = clock_beside g.O.Beside.Disk.clock g.O.Office.beside_of in
    let asked = c.in-Ok.ensures.value in
    let call = asked.0 in
    let closing = c.args.closing in
    let each = asked_each p closing items c.args.requests.now call asks asked.2 in
    let puts = c.in-Ok-put_all.ensures.puts in
    let shown = answers_shown p closing (replies_of call) c.in-Ok.replies.items c.in-Ok-text_of.answers.items c.deref.result.now asked.3
    c.in-Ok-text_of.ensures.value c.deref.ensures.value in
    let said = shown ∙ puts.3 ∙ ap (λ l. bytes_of puts.0 ++ l) puts.4 in
    let late = subst (λ disk. call.end.clock ≤ g.O.Beside.Disk.clock disk) (sym c.beside.ensures.value) asked.5 in
    let le = subst (λ disk. g.O.Beside.Disk.clock c.beside.result.now ≤ g.O.Beside.Disk.clock disk) c.beside.ensures.value (omega arith) in (
      served_in p closing items call.turns,
      [],
      talk_group p g.O.Office.led clock_of c.args.office.now c.ask.new.office call closing items (g.K.Sink.pieces c.args.sink.now)
          (g.K.Sink.pieces c.put_all.new.sink) puts.0 [] (g.O.Beside.Disk.clock c.beside.result.now) each asked.1 puts.2 said puts.5 late le,
      are_answered p closing items call.turns each,
      (map-item-served_in p closing items call.turns each, refl),
    )

-- all was passed on, and a prefix of the text was written
pub returns-clause-talk : goal.returns-clause-talk
returns-clause-talk g c = λ items asks.
    let p = g.P.Protocol.speech in
    let clock_of = clock_beside g.O.Beside.Disk.clock g.O.Office.beside_of in
    let asked = c.in-Ok.ensures.value in
    let call = asked.0 in
    let closing = c.args.closing in
    let each = asked_each p closing items c.args.requests.now call asks asked.2 in
    let puts = c.in-Err.ensures.puts in
    let shown = answers_shown p closing (replies_of call) c.in-Ok.replies.items c.in-Ok-text_of.answers.items c.deref.result.now asked.3
    c.in-Ok-text_of.ensures.value c.deref.ensures.value in
    let late = subst (λ disk. call.end.clock ≤ g.O.Beside.Disk.clock disk) (sym c.beside.ensures.value) asked.5 in
    let le = subst (λ disk. g.O.Beside.Disk.clock c.beside.result.now ≤ g.O.Beside.Disk.clock disk) c.beside.ensures.value (omega arith) in (
      served_in p closing items call.turns,
      puts.1,
      talk_group p g.O.Office.led clock_of c.args.office.now c.ask.new.office call closing items (g.K.Sink.pieces c.args.sink.now)
          (g.K.Sink.pieces c.put_all.new.sink) puts.0 puts.1 (g.O.Beside.Disk.clock c.beside.result.now) each asked.1 puts.2 (shown ∙ puts.3) puts.5 late le,
      are_answered p closing items call.turns each,
      inl (map-item-served_in p closing items call.turns each),
    )
