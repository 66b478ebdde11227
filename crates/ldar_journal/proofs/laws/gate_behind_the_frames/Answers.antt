use Rattle.ldar_journal.proofs.Histories.{gate_place}
use Rattle.ldar_journal.proofs.laws.gate_behind_the_frames.Goals as goal

pub returns : goal.returns
returns c = record { law = gate_place }
