use Rattle.drill_history.proofs.CountLemmas.{drill_counts}
use Rattle.drill_history.proofs.laws.drill_counts.Goals as goal

pub returns : goal.returns
returns c = record { law = drill_counts }
