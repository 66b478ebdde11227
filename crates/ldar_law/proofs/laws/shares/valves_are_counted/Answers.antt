use Rattle.ldar_law.proofs.ShareLemmas.{valves_are_counted}
use Rattle.ldar_law.proofs.laws.shares.valves_are_counted.Goals as goal

pub returns : goal.returns
returns c = record { law = valves_are_counted }
