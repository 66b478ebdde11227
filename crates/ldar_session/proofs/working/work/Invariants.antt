use Rattle.std.proofs.Common.{◌≡◌}
use Rattle.ldar_session.specs.Served.{clock_beside}
use Rattle.ldar_session.specs.Working.{HasWorked}
use Rattle.ldar_session.proofs.working.work.Given as goal

-- the connections so far were answered, and the front has not failed
abbrev pub invariant-loop : goal.invariant-loop
invariant-loop g l =
    HasWorked g.O.Office.led (clock_beside g.O.Beside.Disk.clock g.O.Office.beside_of) l.fn.office l.office (g.L.Front.left l.fn.front)
    (g.L.Front.left l.front) (g.L.Front.done l.fn.front) (g.L.Front.done l.front)
    × (g.L.Front.faults l.front ≡ g.L.Front.faults l.fn.front)
