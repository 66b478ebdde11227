use Rattle.history_laws.proofs.MoreLemmas.{lists_grow}
use Rattle.history_laws.proofs.batches.lists_grow.Goals as goal

pub returns : goal.returns
returns c = record { law = lists_grow }
