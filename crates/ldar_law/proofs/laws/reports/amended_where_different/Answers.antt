use Rattle.ldar_law.proofs.ReportLemmas.{amended_where_different, nothing_amended}
use Rattle.ldar_law.proofs.laws.reports.amended_where_different.Goals as goal

pub returns-clause-change : goal.returns-clause-change
returns-clause-change c = amended_where_different

pub returns-clause-none : goal.returns-clause-none
returns-clause-none c = nothing_amended
