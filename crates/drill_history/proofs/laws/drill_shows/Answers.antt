use Rattle.drill_history.proofs.ShownLemmas.{drill_unit_is_entered, drill_shows_quarter}
use Rattle.drill_history.proofs.laws.drill_shows.Goals as goal

pub returns : goal.returns
returns c = record { entered = drill_unit_is_entered; quarter = drill_shows_quarter }
