use Rattle.ldar_law.proofs.SliceLemmas.{own_facts_suffice}
use Rattle.ldar_law.proofs.laws.register.own_facts_suffice.Goals as goal

pub returns : goal.returns
returns c = record { law = own_facts_suffice }
