use Rattle.ldar_law.proofs.RegisterLemmas.{retired_by_some}
use Rattle.ldar_law.proofs.laws.register.retired_by_some.Goals as goal

pub returns : goal.returns
returns c = record { law = retired_by_some }
