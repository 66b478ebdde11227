use Rattle.std.proofs.Common.{◌≤◌, List, [], length, map, take}
use Rattle.ldar_law.specs.declared.request.Request.TheVariants.{Sync}
use Rattle.office_book.specs.Safe.{Leads}
use Rattle.office_commands.specs.Sending.{AllReceipted, IsSent}
use Rattle.ldar_session.specs.Served.{Served, Talk, clock_beside}
use Rattle.office_commands.proofs.batches.send.Given as goal

-- the batches so far were sent, each has its receipt, and all lines were written
abbrev pub invariant-loop-batch : goal.invariant-loop-batch
invariant-loop-batch g l =
    let d = g.D.Disk in
    ((served : List Served)
    × Talk IsSent (Leads d.content d.left d.clock d.name d.faults) (clock_beside d.clock (λ book. book.disk)) l.fn.book l.book
    (g.K.Sink.pieces l.fn.sink) (g.K.Sink.pieces l.sink) served []
    × AllReceipted (map Sync (take (length l.yielded) l.fn.batches.items)) served [])
    × (g.K.Sink.faults l.fn.sink ≤ g.K.Sink.faults l.sink)
