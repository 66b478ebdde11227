use Rattle.std.proofs.Common.{◌-◌, vec_len}
use Rattle.component_register.specs.Slots.{OnlyAdds}
use Rattle.component_register.proofs.slots.add_rows.Given as goal

abbrev pub invariant-loop-empty : goal.invariant-loop-empty
invariant-loop-empty g l = OnlyAdds l.empty l.initial.rows.items l.rows.items

abbrev pub decreases-loop-empty : goal.decreases-loop-empty
decreases-loop-empty g l = l.count - vec_len l.rows
