use Rattle.ldar_facts.proofs.GrammarLaws.{none_wrong, one_wrong_place}
use Rattle.ldar_facts.proofs.laws.one_wrong_place.Goals as goal

pub returns-clause-none : goal.returns-clause-none
returns-clause-none c = none_wrong

pub returns-clause-one : goal.returns-clause-one
returns-clause-one c = one_wrong_place
