use Rattle.ldar_law.proofs.QuarterLemmas.{streak_is_of_good_quarters}
use Rattle.ldar_law.proofs.laws.quarters.streak_is_of_good_quarters.Goals as goal

pub returns : goal.returns
returns c = record { law = streak_is_of_good_quarters }
