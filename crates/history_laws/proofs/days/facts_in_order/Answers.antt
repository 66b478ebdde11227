use Rattle.history_laws.proofs.UpTo.{history_is_in_order, ascending_are_in_order, part_is_in_order}
use Rattle.history_laws.proofs.days.facts_in_order.Goals as goal

pub returns : goal.returns
returns c = record { history = history_is_in_order; ascending = ascending_are_in_order; part = part_is_in_order }
