use Rattle.std.proofs.Common.{◌≡◌, ◌+◌, ◌<◌, ◌≤◌, ◌++◌, [], ℕ, List, Bool, true, false, length, drop, refl, sym, ap, subst, ◌∙◌, inl}
use Rattle.std.proofs.Common.{length-append, length-drop, arith}
use Rattle.std.proofs.lemmas.Grind.{flat_map-append}
use Rattle.ldar_ports.specs.Source.{Takes}
use Rattle.ldar_ports.proofs.TakesLemmas.{takes_none}
use Rattle.ldar_session.specs.Served.{Served, Talk, items_of, clock_beside}
use Rattle.ldar_session.specs.Speech.{AreAnswered, HasAnswer}
use Rattle.ldar_session.proofs.EndLemmas.{ends_input, ends_part, items_before, takes_after}
use Rattle.ldar_session.proofs.ItemLemmas.{are_more}
use Rattle.ldar_session.proofs.Stretches.{lacks_none}
use Rattle.ldar_session.proofs.TalkLemmas.{talk_none, talk_more}
use Rattle.ldar_session.proofs.connection.connect.Goals as goal

-- out of memory for the window: nothing was read
pub returns-in_default-clause-talk : goal.returns-in_default-clause-talk
returns-in_default-clause-talk g c =
    let clock_of = clock_beside g.O.Beside.Disk.clock g.O.Office.beside_of in (
      [],
      [],
      [],
      takes_none (g.S.Source.left c.args.source.now),
      talk_none (HasAnswer g.P.Protocol.speech) g.O.Office.led clock_of g.met.O.Office.stays c.args.office.now (g.K.Sink.pieces c.args.sink.now),
      record { are = inl (record { closing = false; are = tt; most = omega arith }); lacks = lacks_none [] },
    )

-- at the start nothing is answered, and no bytes are in hand
pub loop-answers-init : goal.loop-answers-init
loop-answers-init g c =
    let clock_of = clock_beside g.O.Beside.Disk.clock g.O.Office.beside_of in
    let left = g.S.Source.left c.args.source.now in
    let bytes : c.in-Ok.window.bytes ≡ [] = ap (λ w. w.bytes) c.in-Ok.ensures.value in
    let size : c.in-Ok.window.size ≡ c.args.size = ap (λ w. w.size) c.in-Ok.ensures.value in
    let count : length c.in-Ok.window.bytes ≡ 0 = ap length bytes in (
      (
        [],
        subst (λ (l : List ℕ). Takes left l left) (sym bytes) (takes_none left),
        talk_none (HasAnswer g.P.Protocol.speech) g.O.Office.led clock_of g.met.O.Office.stays c.args.office.now (g.K.Sink.pieces c.args.sink.now),
        tt,
        refl,
        refl,
      ),
      omega arith,
      omega arith,
      size,
      omega (arith, count),
      omega arith,
      omega arith,
      c.new-protocol.ensures.known,
    )

-- the input has no further item
pub returns-in-Err-clause-talk : goal.returns-in-Err-clause-talk
returns-in-Err-clause-talk g c =
    let so_far = c.loop-answers.invariant.0 in
    let served = so_far.0 in
    let taken = c.next_item.ensures.taken in
    let window = c.next_item.new.window.bytes in
    let left = g.S.Source.left c.next_item.new.source in
    let fewer : length served < 1_000_000 = omega (arith, so_far.4, c.loop-answers-test.true) in (
      served,
      window,
      [],
      takes_after (g.S.Source.left c.args.source.now) (g.S.Source.left c.loop-answers.source) left (items_of served) c.loop-answers.window.bytes taken.0 window
          so_far.1 taken.1 (ap (λ w. w.bytes) taken.2),
      so_far.2,
      ends_input g.P.Protocol.speech c.in-Err.ended served window left c.loop-answers.before fewer (sym so_far.5) so_far.3 c.in-Err.ensures.ended,
    )

-- a write error, out of memory, or refused bytes
pub returns-in-Err-answer_front-clause-talk : goal.returns-in-Err-answer_front-clause-talk
returns-in-Err-answer_front-clause-talk g c =
    let p = g.P.Protocol.speech in
    let clock_of = clock_beside g.O.Beside.Disk.clock g.O.Office.beside_of in
    let so_far = c.loop-answers.invariant.0 in
    let served = so_far.0 in
    let old = g.S.Source.left c.args.source.now in
    let left = g.S.Source.left c.next_item.new.source in
    let taken = c.next_item.ensures.taken in
    let window = c.next_item.new.window.bytes in
    let takes = takes_after old (g.S.Source.left c.loop-answers.source) left (items_of served) c.loop-answers.window.bytes taken.0 window
    so_far.1 taken.1 (ap (λ w. w.bytes) taken.2) in
    let talk = c.in-Err-answer_front.ensures.talk in
    let more = talk.0 in
    let front = subst (λ (l : List ℕ). l ≡ items_of more ++ talk.1) c.bytes-bytes.ensures.value talk.4 in (
      served ++ more,
      talk.1,
      talk.2,
      subst (λ (l : List ℕ). Takes old l left) (items_before served more window talk.1 front) takes,
      talk_more (HasAnswer p) g.O.Office.led clock_of g.met.O.Office.joins c.args.office.now c.loop-answers.office c.answer_front.new.office
          (g.K.Sink.pieces c.args.sink.now) (g.K.Sink.pieces c.loop-answers.sink) (g.K.Sink.pieces c.answer_front.new.sink) served more talk.2
          so_far.2 talk.3,
      ends_part p c.in-Err-answer_front.ended served more talk.1 left talk.3.stretch.put talk.2 c.loop-answers.before c.min-most.result
          (omega (arith, c.min-most.ensures)) (omega (arith, c.min-most.ensures, so_far.4, c.loop-answers-test.true))
          (omega (arith, so_far.4, c.loop-answers-test.true)) (sym so_far.5) so_far.3 talk.3.stretch.said talk.5,
    )

-- the last answered item closes the connection
pub returns-then-progress-clause-talk : goal.returns-then-progress-clause-talk
returns-then-progress-clause-talk g c =
    let p = g.P.Protocol.speech in
    let clock_of = clock_beside g.O.Beside.Disk.clock g.O.Office.beside_of in
    let so_far = c.loop-answers.invariant.0 in
    let served = so_far.0 in
    let old = g.S.Source.left c.args.source.now in
    let left = g.S.Source.left c.next_item.new.source in
    let taken = c.next_item.ensures.taken in
    let window = c.next_item.new.window.bytes in
    let takes = takes_after old (g.S.Source.left c.loop-answers.source) left (items_of served) c.loop-answers.window.bytes taken.0 window
    so_far.1 taken.1 (ap (λ w. w.bytes) taken.2) in
    let talk = c.in-Ok-answer_front.ensures.talk in
    let more = talk.0 in
    let progress = talk.5 in
    let front = subst (λ (l : List ℕ). l ≡ items_of more ++ talk.1) c.bytes-bytes.ensures.value talk.4 in
    let closes = subst (λ (b : Bool). AreAnswered p b more) c.if-progress.true progress.are in
    let all = talk_more (HasAnswer p) g.O.Office.led clock_of g.met.O.Office.joins c.args.office.now c.loop-answers.office c.answer_front.new.office
    (g.K.Sink.pieces c.args.sink.now) (g.K.Sink.pieces c.loop-answers.sink) (g.K.Sink.pieces c.answer_front.new.sink) served more talk.2
    so_far.2 talk.3 in
    let count : length (served ++ more) ≡ c.loop-answers.answers + c.in-Ok-answer_front.progress.answers =
    omega (arith, length-append served more, so_far.4, progress.answers) in (
      served ++ more,
      talk.1,
      [],
      subst (λ (l : List ℕ). Takes old l left) (items_before served more window talk.1 front) takes,
      subst (λ (l : List ℕ). Talk (HasAnswer p) g.O.Office.led clock_of c.args.office.now c.answer_front.new.office
          (g.K.Sink.pieces c.args.sink.now) (g.K.Sink.pieces c.answer_front.new.sink) (served ++ more) l) progress.said all,
      c.ended_closed.ensures.value (served ++ more) talk.1 left count (are_more p true served more progress.some so_far.3 closes),
    )

-- more items are answered, none closes the connection, and all text was written
pub loop-answers-preserved : goal.loop-answers-preserved
loop-answers-preserved g c =
    let p = g.P.Protocol.speech in
    let clock_of = clock_beside g.O.Beside.Disk.clock g.O.Office.beside_of in
    let so_far = c.loop-answers.invariant.0 in
    let served = so_far.0 in
    let old = g.S.Source.left c.args.source.now in
    let left = g.S.Source.left c.next_item.new.source in
    let taken = c.next_item.ensures.taken in
    let window = c.next_item.new.window.bytes in
    let takes = takes_after old (g.S.Source.left c.loop-answers.source) left (items_of served) c.loop-answers.window.bytes taken.0 window
    so_far.1 taken.1 (ap (λ w. w.bytes) taken.2) in
    let talk = c.in-Ok-answer_front.ensures.talk in
    let more = talk.0 in
    let progress = talk.5 in
    let used = c.in-Ok-answer_front.progress.used in
    let shown = c.bytes-bytes.ensures.value in
    let front = subst (λ (l : List ℕ). l ≡ items_of more ++ talk.1) shown talk.4 in
    let dropped = ap (λ w. w.bytes) c.drop_front.ensures.value in
    let rest : talk.1 ≡ c.drop_front.new.self.bytes = progress.behind ∙ ap (λ (l : List ℕ). drop used l) shown ∙ sym dropped in
    let after = subst (λ (l : List ℕ). Takes old l left) (items_before served more window talk.1 front) takes in
    let said = subst (λ (l : List ℕ). Talk (HasAnswer p) g.O.Office.led clock_of c.loop-answers.office c.answer_front.new.office
    (g.K.Sink.pieces c.loop-answers.sink) (g.K.Sink.pieces c.answer_front.new.sink) more l) progress.said talk.3 in
    let stay = subst (λ (b : Bool). AreAnswered p b more) c.if-progress.false progress.are in
    let within : used ≤ length window = subst (λ (l : List ℕ). used ≤ length l) shown progress.within in
    let bytes : length (items_of more) ≡ used =
    omega (arith, ap length front, length-append (items_of more) talk.1, ap length rest, ap length dropped, length-drop used window, within) in
    let size = ap (λ w. w.size) taken.2 in
    let size' = ap (λ w. w.size) c.drop_front.ensures.value in (
      (
        served ++ more,
        subst (λ (l : List ℕ). Takes old (items_of (served ++ more) ++ l) left) rest after,
        talk_more (HasAnswer p) g.O.Office.led clock_of g.met.O.Office.joins c.args.office.now c.loop-answers.office c.answer_front.new.office
            (g.K.Sink.pieces c.args.sink.now) (g.K.Sink.pieces c.loop-answers.sink) (g.K.Sink.pieces c.answer_front.new.sink) served more [] so_far.2 said,
        are_more p false served more progress.some so_far.3 stay,
        omega (arith, length-append served more, so_far.4, progress.answers),
        omega (arith, ap length (flat_map-append (λ (s : Served). s.item) served more), length-append (items_of served) (items_of more), so_far.5, bytes),
      ),
      omega (arith, progress.answers, progress.fits, c.min-most.ensures, c.loop-answers-test.true),
      omega (
        arith,
        progress.answers,
        progress.some,
        within,
        c.next_item.ensures.in_range,
        size,
        c.loop-answers.invariant.2,
        c.loop-answers.invariant.3,
        c.requires.small,
      ),
      omega (arith, size, size', c.loop-answers.invariant.3),
      omega (arith, ap length dropped, length-drop used window, c.next_item.ensures.in_range, size, c.loop-answers.invariant.3),
      omega (arith, c.next_item.ensures.count, c.loop-answers.invariant.5),
      omega (arith, c.answer_front.ensures.count, c.loop-answers.invariant.6),
      c.in-Ok-next_item.ensures.known,
    )
