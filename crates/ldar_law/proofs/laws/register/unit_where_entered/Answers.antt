use Rattle.ldar_law.proofs.EnteredLemmas.{unit_where_entered}
use Rattle.ldar_law.proofs.laws.register.unit_where_entered.Goals as goal

pub returns : goal.returns
returns c = record { law = unit_where_entered }
