use Rattle.ldar_law.proofs.BatchLemmas.{first_entry_of_two, first_unit_of_two}
use Rattle.ldar_law.proofs.laws.batches.first_of_two.Goals as goal

pub returns-clause-component : goal.returns-clause-component
returns-clause-component c = first_entry_of_two

pub returns-clause-unit : goal.returns-clause-unit
returns-clause-unit c = first_unit_of_two
