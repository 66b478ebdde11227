use Rattle.history_laws.proofs.RegisterUpTo.{standing_forgets_later_days}
use Rattle.history_laws.proofs.days.standing_forgets_later_days.Goals as goal

pub returns : goal.returns
returns c = record { law = standing_forgets_later_days }
