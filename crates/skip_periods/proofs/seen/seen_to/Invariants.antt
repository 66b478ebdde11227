use Rattle.std.proofs.Common.{take}
use Rattle.skip_periods.specs.Seen.{AreSeen}
use Rattle.skip_periods.proofs.seen.seen_to.Given as goal

abbrev pub invariant-loop-e : goal.invariant-loop-e
invariant-loop-e l = AreSeen l.fn.startup (take l.e-index l.events) l.quarter l.seen.items
