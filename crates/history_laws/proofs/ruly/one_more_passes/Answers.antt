use Rattle.history_laws.proofs.Passing.{one_more_passes}
use Rattle.history_laws.proofs.ruly.one_more_passes.Goals as goal

pub returns : goal.returns
returns c = record { law = one_more_passes }
