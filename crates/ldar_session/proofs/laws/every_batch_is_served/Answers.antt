use Rattle.ldar_session.proofs.StreamLemmas.{every_batch}
use Rattle.ldar_session.proofs.laws.every_batch_is_served.Goals as goal

pub returns : goal.returns
returns c = record { law = every_batch }
