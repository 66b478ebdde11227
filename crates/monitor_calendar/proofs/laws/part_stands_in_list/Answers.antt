use Rattle.monitor_calendar.proofs.PartLemmas.{part_stands_in_list}
use Rattle.monitor_calendar.proofs.laws.part_stands_in_list.Goals as goal

pub returns : goal.returns
returns c = record { law = part_stands_in_list }
