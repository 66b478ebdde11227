use Rattle.drill_history.proofs.IdentityLemmas.{drill_sends_one_again}
use Rattle.drill_history.proofs.laws.drill_sends_one_again.Goals as goal

pub returns : goal.returns
returns c = record { law = drill_sends_one_again }
