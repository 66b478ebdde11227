use Rattle.monitor_calendar.proofs.PartLemmas.{part_is_own}
use Rattle.monitor_calendar.proofs.laws.part_is_own.Goals as goal

pub returns : goal.returns
returns c = record { law = part_is_own }
