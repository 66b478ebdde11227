use Rattle.ldar_session.proofs.RequestLemmas.{awaited_fit}
use Rattle.ldar_session.proofs.connection.session.Goals as goal

-- the beginning of a request fits into the window
pub connect-requires-clause-fits : goal.connect-requires-clause-fits
connect-requires-clause-fits g c = awaited_fit

pub returns-clause-talk : goal.returns-clause-talk
returns-clause-talk g c =
    let talk = c.connect.ensures.talk in (talk.0, talk.1, talk.2, talk.3, talk.4.stretch, talk.5, talk.4.within)
