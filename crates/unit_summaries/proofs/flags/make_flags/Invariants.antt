use Rattle.std.proofs.Common.{◌≡◌, ℕ, ◌+◌, ◌-◌, vec_len}
use Rattle.touched_readings.specs.Flags.{flag_of}
use Rattle.unit_summaries.proofs.flags.make_flags.Given as goal

abbrev pub invariant-loop-flags : goal.invariant-loop-flags
invariant-loop-flags l = (n : ℕ) → flag_of l.flags.items n ≡ flag_of l.initial.flags.items n

abbrev pub decreases-loop-flags : goal.decreases-loop-flags
decreases-loop-flags l = l.number + 1 - vec_len l.flags
