use Rattle.std.proofs.Common.{◌≡◌, ◌≤◌, ◌-◌, ℕ, List, length}
use Rattle.ldar_ports.specs.Source.{Takes}
use Rattle.ldar_ports.specs.Window.{after_taking}
use Rattle.ldar_session.proofs.input.next_item.Given as goal

-- the bytes read so far follow those in hand, and the protocol's knowledge holds for all of them
abbrev pub invariant-coming : goal.invariant-coming
invariant-coming g l =
    ((taken : List ℕ) × Takes (g.S.Source.left l.fn.source) taken (g.S.Source.left l.source) × (l.window ≡ after_taking l.fn.window taken))
    × (length l.window.bytes ≤ l.window.size)
    × (g.S.Source.faults l.fn.source ≤ g.S.Source.faults l.source)
    × g.P.Protocol.knows l.protocol l.window.bytes

-- the number of bytes with room
abbrev pub decreases-coming : goal.decreases-coming
decreases-coming g l = l.window.size - length l.window.bytes
