use Rattle.history_laws.proofs.MoreLemmas.{left_alone_is_known_alike}
use Rattle.history_laws.proofs.batches.left_alone.Goals as goal

pub returns : goal.returns
returns c = record { law = left_alone_is_known_alike }
