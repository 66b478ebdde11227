use Rattle.ldar_law.proofs.RegisterLemmas.{class_after_facts}
use Rattle.ldar_law.proofs.laws.denials.class_after_facts.Goals as goal

pub returns : goal.returns
returns c = record { law = class_after_facts }
