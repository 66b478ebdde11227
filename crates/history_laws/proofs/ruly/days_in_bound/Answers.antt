use Rattle.history_laws.proofs.Origins.{days_are_in_bound}
use Rattle.history_laws.proofs.ruly.days_in_bound.Goals as goal

pub returns : goal.returns
returns c = record { law = days_are_in_bound }
