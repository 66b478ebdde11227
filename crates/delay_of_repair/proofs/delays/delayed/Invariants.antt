use Rattle.std.proofs.Common.{ℕ, List, reverse, take}
use Rattle.ldar_law.specs.declared.delay.Stop.{Stop}
use Rattle.delay_of_repair.specs.Ends.{AreEnds}
use Rattle.delay_of_repair.specs.Walk.{Repairs, IsPastAbove}
use Rattle.delay_of_repair.proofs.delays.delayed.Given as goal

abbrev pub invariant-loop-place : goal.invariant-loop-place
invariant-loop-place l =
    (IsPastAbove l.repair.due l.last)
    × ((attempts : List ℕ) (stops : List Stop) → AreEnds l.fn.detected attempts stops l.ends
    → Repairs l.fn.detected attempts stops (reverse (take l.place l.delays)) l.repair)
