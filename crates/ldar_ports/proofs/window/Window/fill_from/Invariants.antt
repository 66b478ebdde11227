use Rattle.std.proofs.Common.{◌≡◌, ◌≤◌, ◌-◌, ℕ, List, length}
use Rattle.ldar_ports.specs.Source.{Takes}
use Rattle.ldar_ports.specs.Window.{after_taking}
use Rattle.ldar_ports.proofs.window.Window.fill_from.Given as goal

-- the bytes read so far follow the old ones
abbrev pub invariant-loop-self : goal.invariant-loop-self
invariant-loop-self g l =
    ((taken : List ℕ) × Takes (g.S.Source.left l.fn.source) taken (g.S.Source.left l.source) × (l.self ≡ after_taking l.fn.self taken))
    × (g.S.Source.faults l.fn.source ≤ g.S.Source.faults l.source)

abbrev pub decreases-loop-self : goal.decreases-loop-self
decreases-loop-self g l = l.self.size - length l.self.bytes
