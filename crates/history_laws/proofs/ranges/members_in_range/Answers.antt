use Rattle.history_laws.proofs.RangeLemmas.{members_are_in_range, members_fit}
use Rattle.history_laws.proofs.ranges.members_in_range.Goals as goal

pub returns : goal.returns
returns c = record { law = members_are_in_range; few = members_fit }
