use Rattle.ldar_law.proofs.QuarterLemmas.{tally_counts}
use Rattle.ldar_law.proofs.laws.quarters.tally_counts.Goals as goal

pub returns : goal.returns
returns c = record { law = tally_counts }
