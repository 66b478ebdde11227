use Rattle.ldar_session.proofs.RunLemmas.{runs_have_clocks}
use Rattle.ldar_session.proofs.laws.runs_have_clocks.Goals as goal

pub returns : goal.returns
returns c = record { law = runs_have_clocks }
