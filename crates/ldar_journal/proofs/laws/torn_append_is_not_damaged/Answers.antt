use Rattle.ldar_journal.proofs.ShelfLemmas.{either_not_damaged}
use Rattle.ldar_journal.proofs.laws.torn_append_is_not_damaged.Goals as goal

pub returns : goal.returns
returns c = record { law = either_not_damaged }
