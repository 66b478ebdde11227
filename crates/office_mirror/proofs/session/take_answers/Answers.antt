use Rattle.std.proofs.Common.{◌≡◌, ◌<◌, ◌≤◌, ◌+◌, ◌*◌, ◌++◌, [], ◌∷◌, ℕ, List, Err, length, refl, sym, ap, subst, ◌∙◌, arith, length-append}
use Rattle.list_words.proofs.Members.{all_append}
use Rattle.ldar_ports.specs.Source.{Takes}
use Rattle.ldar_ports.proofs.TakesLemmas.{takes_none}
use Rattle.ldar_session.specs.Served.{items_of}
use Rattle.ldar_session.proofs.EndLemmas.{takes_after}
use Rattle.office_mirror.proofs.LengthLemmas.{answer_fits}
use Rattle.office_mirror.specs.MirrorEnds.{EndsTurn}
use Rattle.office_mirror.specs.MirrorRun.{Take, TakesAnswers, bytes_taken, served_of}
use Rattle.office_mirror.proofs.MirrorLemmas.{answers_join, bytes_more, items_on, no_answers, reading_ends, turn_ends}
use Rattle.office_mirror.proofs.session.take_answers.Goals as goal

-- out of memory for the window: nothing was read
pub returns-in_default-clause-takes : goal.returns-in_default-clause-takes
returns-in_default-clause-takes g c =
    let d = g.D.Disk in (
      [],
      [],
      [],
      takes_none (g.S.Source.left c.args.source.now),
      no_answers d.content d.left d.clock d.name d.faults c.args.mirror.now (g.K.Sink.pieces c.args.sink.now),
      record { said = refl; own = tt; fewer = omega arith; input = tt },
    )

-- at the start no answer was taken, and no bytes are in hand
pub loop-answers-init : goal.loop-answers-init
loop-answers-init g c =
    let d = g.D.Disk in
    let left = g.S.Source.left c.args.source.now in
    let bytes : c.in-Ok.window.bytes ≡ [] = ap (λ w. w.bytes) c.in-Ok.ensures.value in
    let size : c.in-Ok.window.size ≡ 196_608 = ap (λ w. w.size) c.in-Ok.ensures.value in
    let count : length c.in-Ok.window.bytes ≡ 0 = ap length bytes in (
      (
        [],
        subst (λ (l : List ℕ). Takes left l left) (sym bytes) (takes_none left),
        no_answers d.content d.left d.clock d.name d.faults c.args.mirror.now (g.K.Sink.pieces c.args.sink.now),
        tt,
        refl,
        refl,
      ),
      omega arith,
      omega arith,
      size,
      omega (arith, count),
      omega arith,
      omega arith,
    )

-- the input has no further answer
pub returns-in-Err-clause-takes : goal.returns-in-Err-clause-takes
returns-in-Err-clause-takes g c =
    let left = g.S.Source.left in
    let so_far = c.loop-answers.invariant.0 in
    let takes = so_far.0 in
    let taken = c.in-Err.ensures.taken in
    let window = c.loop-answers.window.bytes in
    let rest = window ++ taken.0 in
    let fewer : length takes < 1_000_000 = omega (arith, so_far.4, c.loop-answers-test.true) in (
      takes,
      rest,
      [],
      takes_after (left c.args.source.now) (left c.loop-answers.source) (left c.next_answer.new.source) (items_of (served_of takes)) window taken.0 rest
          so_far.1 taken.1 refl,
      so_far.2,
      reading_ends c.in-Err.ended takes c.loop-answers.before rest (left c.next_answer.new.source) so_far.3 fewer so_far.5 taken.2,
    )

-- a batch is a stranger's, or a line was not written
pub returns-in-Err-take_one-clause-takes : goal.returns-in-Err-take_one-clause-takes
returns-in-Err-take_one-clause-takes g c =
    let d = g.D.Disk in
    let left = g.S.Source.left in
    let pieces = g.K.Sink.pieces in
    let so_far = c.loop-answers.invariant.0 in
    let takes = so_far.0 in
    let taken = c.in-Ok-next_answer.ensures.taken in
    let next = taken.2 in
    let window = c.loop-answers.window.bytes in
    let rest = c.next_answer.new.window.bytes in
    let one = c.in-Err-take_one.ensures.takes next.item next.spells in
    let fewer : length takes < 1_000_000 = omega (arith, so_far.4, c.loop-answers-test.true) in
    let old = left c.args.source.now in
    let new = left c.next_answer.new.source in (
      takes ++ one.0 ∷ [],
      rest,
      one.1,
      subst (λ (l : List ℕ). Takes old l new) (items_on takes one.0 (window ++ taken.0) next.item rest next.are one.2)
          (takes_after old (left c.loop-answers.source) new (items_of (served_of takes)) window taken.0 (window ++ taken.0) so_far.1 taken.1 refl),
      answers_join d.content d.left d.clock d.name d.faults c.args.mirror.now c.loop-answers.mirror c.take_one.new.mirror (pieces c.args.sink.now)
          (pieces c.loop-answers.sink) (pieces c.take_one.new.sink) takes (one.0 ∷ []) one.1 so_far.2 one.3,
      turn_ends c.in-Err-take_one.ended one.0 one.1 takes rest new so_far.3 fewer one.4,
    )

-- taking an answer reads nothing
pub returns-in-Err-take_one-clause-read_fault : goal.returns-in-Err-take_one-clause-read_fault
returns-in-Err-take_one-clause-read_fault g c = λ told.
    let next = c.in-Ok-next_answer.ensures.taken.2 in
    let one = c.in-Err-take_one.ensures.takes next.item next.spells in
    absurd (subst (λ e. EndsTurn (Err e) one.0 one.1) told one.4)

pub overflow_add-before : goal.overflow_add-before
overflow_add-before g c =
    let next = c.in-Ok-next_answer.ensures.taken.2 in
    omega (arith, next.long, answer_fits next.item c.in-Ok-next_answer.next.0 next.spells, c.loop-answers.invariant.2, c.loop-answers-test.true)

-- one more answer was taken, and its line was written
pub loop-answers-preserved : goal.loop-answers-preserved
loop-answers-preserved g c =
    let d = g.D.Disk in
    let left = g.S.Source.left in
    let pieces = g.K.Sink.pieces in
    let so_far = c.loop-answers.invariant.0 in
    let takes = so_far.0 in
    let taken = c.in-Ok-next_answer.ensures.taken in
    let next = taken.2 in
    let window = c.loop-answers.window.bytes in
    let rest = c.next_answer.new.window.bytes in
    let one = c.in-Ok-take_one.ensures.takes next.item next.spells in
    let long = answer_fits next.item c.in-Ok-next_answer.next.0 next.spells in
    let old = left c.args.source.now in
    let new = left c.next_answer.new.source in
    let said = subst (λ (l : List ℕ). TakesAnswers d.content d.left d.clock d.name d.faults c.loop-answers.mirror c.take_one.new.mirror
    (pieces c.loop-answers.sink) (pieces c.take_one.new.sink) (one.0 ∷ []) l) one.4.0 one.3 in (
      (
        takes ++ one.0 ∷ [],
        subst (λ (l : List ℕ). Takes old l new) (items_on takes one.0 (window ++ taken.0) next.item rest next.are one.2)
            (takes_after old (left c.loop-answers.source) new (items_of (served_of takes)) window taken.0 (window ++ taken.0) so_far.1 taken.1 refl),
        answers_join d.content d.left d.clock d.name d.faults c.args.mirror.now c.loop-answers.mirror c.take_one.new.mirror (pieces c.args.sink.now)
            (pieces c.loop-answers.sink) (pieces c.take_one.new.sink) takes (one.0 ∷ []) [] so_far.2 said,
        all_append _ takes (one.0 ∷ []) so_far.3 (one.4.1, tt),
        omega (arith, length-append takes (one.0 ∷ []), so_far.4),
        omega (arith, ap length (bytes_more takes one.0), length-append (bytes_taken takes) one.0.bytes, so_far.5, ap length one.2, next.long),
      ),
      omega (arith, c.loop-answers-test.true),
      omega (arith, next.long, long, c.loop-answers.invariant.2),
      c.next_answer.ensures.size ∙ c.loop-answers.invariant.3,
      c.next_answer.ensures.in_range,
      omega (arith, c.next_answer.ensures.count, c.loop-answers.invariant.5),
      omega (arith, c.take_one.ensures.count, c.loop-answers.invariant.6),
    )
