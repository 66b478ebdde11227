use Rattle.ldar_journal.proofs.Histories.{no_header_opens_to_none}
use Rattle.ldar_journal.proofs.laws.no_header_opens_to_none.Goals as goal

pub returns : goal.returns
returns c = record { law = no_header_opens_to_none }
