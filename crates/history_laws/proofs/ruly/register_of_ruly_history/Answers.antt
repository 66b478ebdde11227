use Rattle.history_laws.proofs.RegisterOfRuly.{ruly_gives_register}
use Rattle.history_laws.proofs.ruly.register_of_ruly_history.Goals as goal

pub returns : goal.returns
returns c = record { law = ruly_gives_register }
