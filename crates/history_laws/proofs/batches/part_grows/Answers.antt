use Rattle.history_laws.proofs.MoreLemmas.{part_of_more_facts, part_stays}
use Rattle.history_laws.proofs.batches.part_grows.Goals as goal

pub returns : goal.returns
returns c = record { law = part_of_more_facts; stays = part_stays }
