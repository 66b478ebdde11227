use Rattle.std.proofs.Common.{◌≡◌, ◌<◌, ◌-◌, length}
use Rattle.pump_seals.specs.Walked as spec
use Rattle.pump_seals.proofs.leaks_of_sort.LeaksOfSort.closing_from.Given as goal

abbrev pub invariant-loop-last : goal.invariant-loop-last
invariant-loop-last l = (l.last < length l.self.leaks.now) × (spec.closing_at l.self l.place ≡ spec.closing_at l.self l.last)

abbrev pub decreases-loop-last : goal.decreases-loop-last
decreases-loop-last l = length l.self.leaks.now - l.last
