use Rattle.ldar_law.proofs.ReportLemmas.{cells_are_bounded}
use Rattle.ldar_law.proofs.laws.reports.cells_are_bounded.Goals as goal

pub returns : goal.returns
returns c = record { law = cells_are_bounded }
