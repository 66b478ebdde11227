use Rattle.ldar_law.proofs.EnteredLemmas.{component_where_entered}
use Rattle.ldar_law.proofs.laws.register.component_where_entered.Goals as goal

pub returns : goal.returns
returns c = record { law = component_where_entered }
