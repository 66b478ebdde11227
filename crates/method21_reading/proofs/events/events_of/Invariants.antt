use Rattle.std.proofs.Common.{◌≡◌, ◌++◌, drop}
use Rattle.ldar_law.specs.Events as law
use Rattle.ldar_law.specs.Force.{limit_on}
use Rattle.method21_reading.specs.Standings.{StandsSo}
use Rattle.method21_reading.proofs.events.events_of.Given as goal

abbrev pub invariant-loop-e : goal.invariant-loop-e
invariant-loop-e l = record {
  stands : StandsSo l.equipment l.classes l.standing;
  done :
      law.events_with l.equipment l.classes (limit_on l.equipment l.classes) l.facts l.fitness
      ≡ l.events.items ++ law.events_with l.equipment l.classes (limit_on l.equipment l.classes) (drop l.e-index l.facts) l.left;
}
