use Rattle.history_laws.proofs.RangeLemmas.{startups_are_days, components_stand_in_range}
use Rattle.history_laws.proofs.ranges.register_in_range.Goals as goal

pub returns : goal.returns
returns c = record { units = startups_are_days; components = components_stand_in_range }
