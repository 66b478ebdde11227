use Rattle.ldar_law.proofs.VerdictLemmas.{passes_undenied}
use Rattle.ldar_law.proofs.laws.denials.passing_batch.Goals as goal

pub returns : goal.returns
returns c = record { law = passes_undenied }
