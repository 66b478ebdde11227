use Rattle.ldar_session.proofs.RequestStreams.{every_request}
use Rattle.ldar_session.proofs.laws.every_request_is_answered.Goals as goal

pub returns : goal.returns
returns c = record { law = every_request }
