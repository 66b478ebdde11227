use Rattle.std.proofs.Common.{take}
use Rattle.fact_kinds.specs.Named as named
use Rattle.component_register.specs.Slots.{HaveRows, OnlyAdds, no_slot}
use Rattle.component_register.proofs.slots.make_slots.Given as goal

abbrev pub invariant-loop-fact : goal.invariant-loop-fact
invariant-loop-fact l = record {
  adds : OnlyAdds no_slot l.initial.slots.items l.slots.items;
  roomy : HaveRows named.component_of (take l.fact-index l.facts) l.slots.items;
}
