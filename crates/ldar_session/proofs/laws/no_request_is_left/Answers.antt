use Rattle.ldar_session.proofs.RequestStreams.{leaves_none}
use Rattle.ldar_session.proofs.laws.no_request_is_left.Goals as goal

pub returns : goal.returns
returns c = record { law = leaves_none }
