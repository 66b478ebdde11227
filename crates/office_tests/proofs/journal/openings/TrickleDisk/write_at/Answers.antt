use Rattle.disk_model.proofs.WriteLemmas.{tears_or_stays_any}
use Rattle.office_tests.proofs.journal.openings.TrickleDisk.write_at.Goals as goal

pub returns-clause-crash : goal.returns-clause-crash
returns-clause-crash c = tears_or_stays_any _ _
