use Rattle.std.proofs.Common.{◌∷◌, [], refl, ◌∙◌, subst, sym}
use Rattle.ldar_ports.specs.Front.{Connection, Accepts, Finishes, connection_of, finished_of}
use Rattle.ldar_session.specs.Served.{clock_beside}
use Rattle.ldar_session.specs.Working.{Visit, IsSession}
use Rattle.ldar_session.proofs.WorkLemmas.{worked_none, worked_more}
use Rattle.ldar_session.proofs.working.work.Goals as goal

pub loop-init : goal.loop-init
loop-init g c = (worked_none g.O.Office.led _ g.met.O.Office.stays _ _ _, refl)

pub loop-preserved : goal.loop-preserved
loop-preserved g c =
    let so_far = c.loop.invariant.0 in
    let source = c.in-Some-next.source in
    let sink = c.in-Some-next.sink in
    let talk = c.session-ended.ensures.talk in
    let before : Connection = connection_of (g.L.In.Source.left source) (g.L.Out.Sink.pieces sink) (g.L.In.Source.faults source) (g.L.Out.Sink.faults sink) in
    let after : Connection =
    connection_of (g.L.In.Source.left c.session-ended.new.source) (g.L.Out.Sink.pieces c.session-ended.new.sink)
    (g.L.In.Source.faults c.session-ended.new.source) (g.L.Out.Sink.faults c.session-ended.new.sink) in
    let visit : Visit = record { before = before; after = finished_of after c.session-ended.result; served = talk.0 } in
    let session : IsSession g.O.Office.led (clock_beside g.O.Beside.Disk.clock g.O.Office.beside_of) c.loop.office c.session-ended.new.office visit = record {
      rest = talk.1;
      unsaid = talk.2;
      takes = talk.3;
      stretch = talk.4;
      ends = talk.5;
      within = talk.6;
      read_fault = c.session-ended.ensures.read_fault;
      write_fault = c.session-ended.ensures.write_fault;
      read_count = c.session-ended.ensures.read_count;
      write_count = c.session-ended.ensures.write_count;
    } in
    let given = rw c.in-Some-next.is at c.in-Ok.ensures.accepted in
    let accepted : Accepts (g.L.Front.left c.loop.front) (before ∷ []) (g.L.Front.left c.finish.new.self) =
    subst (Accepts (g.L.Front.left c.loop.front) (before ∷ [])) (sym c.finish.ensures.others) given in (
      worked_more g.O.Office.led _ g.met.O.Office.joins _ _ _ _ _ _ _ _ _ so_far visit session accepted
          (subst (λ done. Finishes done (visit.after ∷ []) (g.L.Front.done c.finish.new.self)) c.in-Ok.ensures.others c.finish.ensures.finished),
      c.finish.ensures.calm ∙ (c.in-Ok.ensures.calm ∙ c.loop.invariant.1),
    )
