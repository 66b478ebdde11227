use Rattle.std.proofs.Common.{◌≡◌, ◌≤◌, ◌-◌, ◌*◌, ◌++◌, ℕ, List, [], false, length}
use Rattle.ldar_ports.specs.Source.{Takes}
use Rattle.ldar_session.specs.Served.{Served, Talk, items_of, clock_beside}
use Rattle.ldar_session.specs.Speech.{AreAnswered, HasAnswer}
use Rattle.ldar_session.proofs.connection.connect.Given as goal

-- the items answered so far, with all text written and the connection still open, followed by the bytes in hand
abbrev pub invariant-loop-answers : goal.invariant-loop-answers
invariant-loop-answers g l =
    ((served : List Served)
    × Takes (g.S.Source.left l.fn.source) (items_of served ++ l.window.bytes) (g.S.Source.left l.source)
    × Talk (HasAnswer g.P.Protocol.speech) g.O.Office.led (clock_beside g.O.Beside.Disk.clock g.O.Office.beside_of) l.fn.office l.office
    (g.K.Sink.pieces l.fn.sink) (g.K.Sink.pieces l.sink) served []
    × AreAnswered g.P.Protocol.speech false served
    × (length served ≡ l.answers)
    × (length (items_of served) ≡ l.before))
    × (l.answers ≤ 1_000_000)
    × (l.before ≤ l.answers * 1_048_576)
    × (l.window.size ≡ l.size)
    × (length l.window.bytes ≤ l.size)
    × (g.S.Source.faults l.fn.source ≤ g.S.Source.faults l.source)
    × (g.K.Sink.faults l.fn.sink ≤ g.K.Sink.faults l.sink)
    × ((bytes : List ℕ) → g.P.Protocol.knows l.protocol bytes)

-- the number of answers that may still be given
abbrev pub decreases-loop-answers : goal.decreases-loop-answers
decreases-loop-answers g l = 1_000_000 - l.answers
