use Rattle.history_laws.proofs.Origins.{startups_are_in_bound, beginnings_are_in_bound}
use Rattle.history_laws.proofs.ruly.startups_in_bound.Goals as goal

pub returns : goal.returns
returns c = record { units = startups_are_in_bound; components = beginnings_are_in_bound }
