use Rattle.history_laws.proofs.MoreLemmas.{register_grows, members_grow}
use Rattle.history_laws.proofs.batches.register_grows.Goals as goal

pub returns : goal.returns
returns c = record { by_key = register_grows; members = members_grow }
