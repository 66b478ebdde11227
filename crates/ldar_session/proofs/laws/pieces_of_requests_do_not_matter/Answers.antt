use Rattle.ldar_session.proofs.RequestStreams.{one_stream}
use Rattle.ldar_session.proofs.laws.pieces_of_requests_do_not_matter.Goals as goal

pub returns : goal.returns
returns c = record { law = one_stream }
