use Rattle.std.proofs.Common.{◌≡◌, length}
use Rattle.method21_reading.specs.Gases.{AreLeast}
use Rattle.method21_reading.proofs.gas.least_gases.Given as goal

abbrev pub invariant-loop-at : goal.invariant-loop-at
invariant-loop-at l = record {
  so_far : length l.least.items ≡ l.at;
  sound : AreLeast l.facts l.least.items;
}
