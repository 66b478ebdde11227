use Rattle.ldar_law.proofs.RouteLemmas.{stops_are_undone}
use Rattle.ldar_law.proofs.laws.quarters.stops_are_undone.Goals as goal

pub returns : goal.returns
returns c = record { law = stops_are_undone }
