use Rattle.ldar_law.proofs.MonthLemmas.{quarterly_decides}
use Rattle.ldar_law.proofs.laws.months.quarterly_decides.Goals as goal

pub returns : goal.returns
returns c = record { law = quarterly_decides }
