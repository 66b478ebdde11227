use Rattle.history_laws.proofs.AskedLemmas.{what_is_asked_was_entered, unit_of_component_is_entered}
use Rattle.history_laws.proofs.ruly.asked_was_entered.Goals as goal

pub returns : goal.returns
returns c = record { law = what_is_asked_was_entered; unit = unit_of_component_is_entered }
