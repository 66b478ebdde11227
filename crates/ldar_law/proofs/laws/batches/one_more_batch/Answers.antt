use Rattle.ldar_law.proofs.BatchLemmas.{ruly_by_one_more}
use Rattle.ldar_law.proofs.laws.batches.one_more_batch.Goals as goal

pub returns : goal.returns
returns c = record { law = ruly_by_one_more }
