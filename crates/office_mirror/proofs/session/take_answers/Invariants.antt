use Rattle.std.proofs.Common.{◌≡◌, ◌≤◌, ◌*◌, ◌-◌, ◌++◌, ℕ, List, [], length}
use Rattle.ldar_ports.specs.Source.{Takes}
use Rattle.ldar_session.specs.Served.{items_of}
use Rattle.office_mirror.specs.MirrorEnds.{NoStrangers}
use Rattle.office_mirror.specs.MirrorRun.{Take, TakesAnswers, bytes_taken, served_of}
use Rattle.office_mirror.proofs.session.take_answers.Given as goal

-- the answers taken so far, with all lines written, followed by the bytes in hand
abbrev pub invariant-loop-answers : goal.invariant-loop-answers
invariant-loop-answers g l =
    ((takes : List Take)
    × Takes (g.S.Source.left l.fn.source) (items_of (served_of takes) ++ l.window.bytes) (g.S.Source.left l.source)
    × TakesAnswers g.D.Disk.content g.D.Disk.left g.D.Disk.clock g.D.Disk.name g.D.Disk.faults l.fn.mirror l.mirror
    (g.K.Sink.pieces l.fn.sink) (g.K.Sink.pieces l.sink) takes []
    × NoStrangers takes
    × (length takes ≡ l.answers)
    × (length (bytes_taken takes) ≡ l.before))
    × (l.answers ≤ 1_000_000)
    × (l.before ≤ l.answers * 188_566)
    × (l.window.size ≡ 196_608)
    × (length l.window.bytes ≤ l.window.size)
    × (g.S.Source.faults l.fn.source ≤ g.S.Source.faults l.source)
    × (g.K.Sink.faults l.fn.sink ≤ g.K.Sink.faults l.sink)

-- the number of answers that may still be taken
abbrev pub decreases-loop-answers : goal.decreases-loop-answers
decreases-loop-answers g l = 1_000_000 - l.answers
