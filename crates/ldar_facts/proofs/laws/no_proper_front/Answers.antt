use Rattle.ldar_facts.proofs.GrammarLaws.{no_proper_front}
use Rattle.ldar_facts.proofs.laws.no_proper_front.Goals as goal

pub returns : goal.returns
returns c = record { law = no_proper_front }
