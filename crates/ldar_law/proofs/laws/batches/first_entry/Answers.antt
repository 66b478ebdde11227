use Rattle.ldar_law.proofs.BatchLemmas.{first_entry_is_registered, first_entry_is_equipment}
use Rattle.ldar_law.proofs.laws.batches.first_entry.Goals as goal

pub returns-clause-registered : goal.returns-clause-registered
returns-clause-registered c = first_entry_is_registered

pub returns-clause-equipment : goal.returns-clause-equipment
returns-clause-equipment c = first_entry_is_equipment
