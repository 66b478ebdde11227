use Rattle.std.proofs.Common.{List, length, take}
use Rattle.ldar_law.specs.Machine.{Call}
use Rattle.office_book.specs.Safe.{Leads}
use Rattle.office_commands.specs.declared.drill.Asked.TheVariants as asks
use Rattle.office_commands.specs.Drills.{requests_for, EndsAsks}
use Rattle.office_commands.proofs.drill.ask_each.Given as goal

-- the batches gone over so far were asked, each with its view, and all was answered
abbrev pub invariant-loop-batch : goal.invariant-loop-batch
invariant-loop-batch g l =
    let d = g.D.Disk in
    (calls : List Call) × Leads d.content d.left d.clock d.name d.faults l.fn.book calls l.book
    × EndsAsks asks.Done (requests_for (take (length l.yielded) l.fn.batches.items)) calls
