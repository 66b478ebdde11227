use Rattle.std.proofs.Common.{◌-◌, ◌≤◌, length}
use Rattle.fact_store.specs.Parts.{CountAll, KeepTurn}
use Rattle.fact_store.proofs.indexes.Indexes.catch_up.Given as goal

abbrev pub invariant-parts : goal.invariant-parts
invariant-parts l = record {
  within : l.from ≤ length l.arrived;
  turned : KeepTurn l.arrived l.spare l.from l.self;
  counted : CountAll l.self l.arrived l.spare l.counts;
}

abbrev pub decreases-parts : goal.decreases-parts
decreases-parts l = length l.arrived - l.from
