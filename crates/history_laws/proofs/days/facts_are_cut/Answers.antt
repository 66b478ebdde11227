use Rattle.history_laws.proofs.UpTo.{part_up_to_a_day, facts_are_cut}
use Rattle.history_laws.proofs.days.facts_are_cut.Goals as goal

pub returns : goal.returns
returns c = record { part = part_up_to_a_day; law = facts_are_cut }
