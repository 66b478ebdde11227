use Rattle.ldar_law.proofs.MonthLemmas.{clean_twice_from_decides}
use Rattle.ldar_law.proofs.laws.months.clean_twice_from_decides.Goals as goal

pub returns : goal.returns
returns c = record { law = clean_twice_from_decides }
