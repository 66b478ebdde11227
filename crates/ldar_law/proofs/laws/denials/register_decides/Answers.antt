use Rattle.ldar_law.proofs.RegisterLemmas.{register_decides}
use Rattle.ldar_law.proofs.laws.denials.register_decides.Goals as goal

pub returns : goal.returns
returns c = record { law = register_decides }
