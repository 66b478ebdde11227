use Rattle.ldar_session.specs.Batches.{IsBatch, batch_speech}
use Rattle.ldar_session.specs.Speech.{HasAnswer}
use Rattle.ldar_session.proofs.BatchLemmas.{are_batches, begun_fits}
use Rattle.ldar_session.proofs.Stretches.{stretch_of}
use Rattle.ldar_session.proofs.connection.dock.Goals as goal

-- the beginning of a batch fits into the window
pub connect-requires-clause-fits : goal.connect-requires-clause-fits
connect-requires-clause-fits g c = begun_fits

-- each item is a batch
pub returns-clause-talk : goal.returns-clause-talk
returns-clause-talk g c =
    let talk = c.connect.ensures.talk in
    let stretch = talk.4.stretch in (
      talk.0,
      talk.1,
      talk.2,
      talk.3,
      stretch_of (HasAnswer batch_speech) g.O.Office.led IsBatch c.args.office.now c.connect.new.office (g.K.Sink.pieces c.args.sink.now)
          (g.K.Sink.pieces c.connect.new.sink) talk.0 talk.2 stretch (are_batches talk.0 stretch.each),
      talk.5,
      talk.4.within,
    )
