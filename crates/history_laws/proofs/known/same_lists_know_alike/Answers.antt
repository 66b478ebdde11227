use Rattle.history_laws.proofs.KnownLemmas.{same_lists_know_alike}
use Rattle.history_laws.proofs.known.same_lists_know_alike.Goals as goal

pub returns : goal.returns
returns c = record { law = same_lists_know_alike }
