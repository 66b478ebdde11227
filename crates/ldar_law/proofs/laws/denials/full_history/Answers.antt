use Rattle.ldar_law.proofs.VerdictLemmas.{full_undenied}
use Rattle.ldar_law.proofs.laws.denials.full_history.Goals as goal

pub returns : goal.returns
returns c = record { law = full_undenied }
