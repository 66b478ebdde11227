use Rattle.history_laws.proofs.RangeLemmas.{facts_are_in_range, part_is_in_range}
use Rattle.history_laws.proofs.ranges.facts_in_range.Goals as goal

pub returns : goal.returns
returns c = record { law = facts_are_in_range; part = part_is_in_range }
