use Rattle.history_laws.proofs.Origins.{startup_is_of_fact, beginning_is_of_fact}
use Rattle.history_laws.proofs.ruly.days_are_of_facts.Goals as goal

pub returns : goal.returns
returns c = record { units = startup_is_of_fact; components = beginning_is_of_fact }
