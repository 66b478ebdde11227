use Rattle.ldar_law.proofs.EventLemmas.{readings_are_of_instrument}
use Rattle.ldar_law.proofs.laws.readings.readings_are_of_instrument.Goals as goal

pub returns : goal.returns
returns c = record { law = readings_are_of_instrument }
