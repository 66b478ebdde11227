use Rattle.std.proofs.Common.{None, take}
use Rattle.fact_kinds.specs.Named as named
use Rattle.component_register.specs.Slots.{HaveRows, OnlyAdds}
use Rattle.component_register.proofs.units.make_units.Given as goal

abbrev pub invariant-loop-fact : goal.invariant-loop-fact
invariant-loop-fact l = record {
  adds : OnlyAdds None l.initial.units.items l.units.items;
  roomy : HaveRows named.unit_of (take l.fact-index l.facts) l.units.items;
}
