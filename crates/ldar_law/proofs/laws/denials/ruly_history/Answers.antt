use Rattle.ldar_law.proofs.VerdictLemmas.{ruly_is_each, ruly_has_no_unruly}
use Rattle.ldar_law.proofs.laws.denials.ruly_history.Goals as goal

pub returns-clause-each : goal.returns-clause-each
returns-clause-each c = ruly_is_each

pub returns-clause-none_unruly : goal.returns-clause-none_unruly
returns-clause-none_unruly c = ruly_has_no_unruly
