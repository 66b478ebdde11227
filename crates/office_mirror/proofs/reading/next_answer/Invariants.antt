use Rattle.std.proofs.Common.{◌≡◌, ◌≤◌, ◌+◌, ◌-◌, ◌++◌, ℕ, List, length}
use Rattle.ldar_ports.specs.Source.{Takes}
use Rattle.office_mirror.proofs.reading.next_answer.Given as goal

-- the bytes that were read of the answer are followed by those in hand
abbrev pub invariant-coming : goal.invariant-coming
invariant-coming g l =
    ((taken : List ℕ) × Takes (g.S.Source.left l.fn.source) taken (g.S.Source.left l.source)
    × (l.fn.window.bytes ++ taken ≡ l.reader ++ l.window.bytes))
    × (length l.reader ≡ l.got)
    × (l.got ≤ 188_566)
    × (l.window.size ≡ 196_608)
    × (length l.window.bytes ≤ l.window.size)
    × (g.S.Source.faults l.fn.source ≤ g.S.Source.faults l.source)

-- the number of bytes that may still come, and of those that may still be read of the answer
abbrev pub decreases-coming : goal.decreases-coming
decreases-coming g l = (385_174 - (length l.reader + length l.window.bytes)) + (188_566 - l.got)
