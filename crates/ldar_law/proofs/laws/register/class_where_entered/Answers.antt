use Rattle.ldar_law.proofs.EnteredLemmas.{class_where_entered}
use Rattle.ldar_law.proofs.laws.register.class_where_entered.Goals as goal

pub returns : goal.returns
returns c = record { law = class_where_entered }
