use Rattle.std.proofs.Common.{◌≡◌, ◌≤◌, ◌++◌, ℕ, List, [], ◌∷◌, length, length-append, refl, ap, subst, ◌∙◌, arith}
use Rattle.ldar_journal.specs.Image.{batches_of}
use Rattle.ldar_ports.specs.Sink.{bytes_of}
use Rattle.office_mirror.specs.MirrorRun.{Take, TakesAnswers, line_of}
use Rattle.office_mirror.proofs.MirrorLemmas.{takes_one}
use Rattle.office_mirror.proofs.turn.take_one.Goals as goal

-- the line was written
pub returns-in-Ok-clause-takes : goal.returns-in-Ok-clause-takes
returns-in-Ok-clause-takes g c = λ bytes spells.
    let d = g.D.Disk in
    let was = c.take-taken.ensures.value in
    let put = c.in-Ok.ensures.said in
    let new = c.take-taken.new.self in
    let take : Take = record {
      bytes = bytes;
      answer = c.args.answer.now;
      calls = was.0;
      history = batches_of new.frames;
      taken = c.take-taken.result;
    } in
    let same = c.disk.ensures.value ∙ ap (λ s. s.disk) c.book.ensures.value in
    let all = takes_one d.content d.left d.clock d.name d.faults c.args.mirror.now new c.args.answer.now was.0 c.take-taken.result bytes
    (g.K.Sink.pieces c.args.sink.now) (g.K.Sink.pieces c.put_line.new.sink) put.0 put.1 c.disk.result.now spells was.1 was.2 c.take-taken.ensures.mirrors
    same put.2 put.3 put.5 in (
      take,
      [],
      refl,
      subst (λ (l : List ℕ). TakesAnswers d.content d.left d.clock d.name d.faults c.args.mirror.now new (g.K.Sink.pieces c.args.sink.now)
          (g.K.Sink.pieces c.put_line.new.sink) (take ∷ []) l) put.4 all,
      c.if_no_stranger.ensures.value take refl,
    )

-- a part of the line was written
pub returns-clause-takes : goal.returns-clause-takes
returns-clause-takes g c = λ bytes spells.
    let d = g.D.Disk in
    let was = c.take-taken.ensures.value in
    let put = c.in-Err.ensures.said in
    let new = c.take-taken.new.self in
    let same = c.disk.ensures.value ∙ ap (λ s. s.disk) c.book.ensures.value in
    let all = takes_one d.content d.left d.clock d.name d.faults c.args.mirror.now new c.args.answer.now was.0 c.take-taken.result bytes
    (g.K.Sink.pieces c.args.sink.now) (g.K.Sink.pieces c.put_line.new.sink) put.0 put.1 c.disk.result.now spells was.1 was.2 c.take-taken.ensures.mirrors
    same put.2 put.3 put.5 in
    let long = ap length put.3 ∙ length-append (bytes_of put.0) put.1 in (
      record {
        bytes = bytes;
        answer = c.args.answer.now;
        calls = was.0;
        history = batches_of new.frames;
        taken = c.take-taken.result;
      },
      put.1,
      refl,
      all,
      (c.in-Err.ensures.has_line, omega (arith, long)),
    )
