use Rattle.ldar_session.proofs.RequestStreams.{in_order}
use Rattle.ldar_session.proofs.laws.requests_are_answered_in_order.Goals as goal

pub returns : goal.returns
returns c = record { law = in_order }
