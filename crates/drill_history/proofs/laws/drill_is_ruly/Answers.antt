use Rattle.std.proofs.Common.{arith}
use Rattle.drill_history.proofs.CountLemmas.{drill_counts}
use Rattle.drill_history.proofs.TurnLemmas.{ruly_in_turn}
use Rattle.drill_history.proofs.DrillLemmas.{drill_passes}
use Rattle.drill_history.specs.Drill.{drill_history}
use Rattle.drill_history.proofs.laws.drill_is_ruly.Goals as goal

pub returns : goal.returns
returns c = record {
  law = λ seed size within. ruly_in_turn (drill_history seed size) (omega (arith, within, drill_counts seed size)) (drill_passes seed size);
}
