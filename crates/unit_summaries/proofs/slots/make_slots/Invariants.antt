use Rattle.std.proofs.Common.{◌≡◌, ℕ, ◌+◌, ◌-◌, vec_len}
use Rattle.unit_summaries.specs.Rows.{slot_in}
use Rattle.unit_summaries.proofs.slots.make_slots.Given as goal

abbrev pub invariant-loop-slots : goal.invariant-loop-slots
invariant-loop-slots g l = (n : ℕ) → slot_in l.slots.items n ≡ slot_in l.initial.slots.items n

abbrev pub decreases-loop-slots : goal.decreases-loop-slots
decreases-loop-slots g l = l.number + 1 - vec_len l.slots
