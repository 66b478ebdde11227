use Rattle.ldar_law.proofs.RegisterLemmas.{retired_after_facts}
use Rattle.ldar_law.proofs.laws.batches.retired_after_facts.Goals as goal

pub returns : goal.returns
returns c = record { law = retired_after_facts }
