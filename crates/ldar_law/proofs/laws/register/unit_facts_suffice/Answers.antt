use Rattle.ldar_law.proofs.SliceLemmas.{unit_facts_suffice, unit_facts_judge}
use Rattle.ldar_law.proofs.laws.register.unit_facts_suffice.Goals as goal

pub returns : goal.returns
returns c = record { law = unit_facts_suffice; judges = unit_facts_judge }
