use Rattle.dual_seals.proofs.OrderLemmas.{seal_rows_rise}
use Rattle.dual_seals.proofs.rows.rows_of.Goals as goal

pub returns-clause-ordered : goal.returns-clause-ordered
returns-clause-ordered c = seal_rows_rise c.args.text.now c.in_ok-rows.rows.items c.in_ok-rows.ensures.value
