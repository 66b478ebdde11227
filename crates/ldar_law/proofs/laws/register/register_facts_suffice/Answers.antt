use Rattle.ldar_law.proofs.SliceLemmas.{register_facts_suffice}
use Rattle.ldar_law.proofs.laws.register.register_facts_suffice.Goals as goal

pub returns : goal.returns
returns c = record { law = register_facts_suffice }
