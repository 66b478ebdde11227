use Rattle.std.proofs.Common.{◌-◌, ◌≤◌, [], length, take}
use Rattle.fact_store.specs.Parts.{CountAll}
use Rattle.fact_store.proofs.indexes.Indexes.count.Given as goal

abbrev pub invariant-parts : goal.invariant-parts
invariant-parts l = record {
  within : l.from ≤ length l.arrived;
  counted : CountAll l.self (take l.from l.arrived) [] l.counts;
}

abbrev pub decreases-parts : goal.decreases-parts
decreases-parts l = length l.arrived - l.from
