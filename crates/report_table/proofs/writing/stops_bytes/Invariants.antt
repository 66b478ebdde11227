use Rattle.std.proofs.Common.{◌≡◌, take}
use Rattle.std.specs.List.{flat_map, AllByRecursion}
use Rattle.report_table.specs.CellBytes.{stop_bytes}
use Rattle.report_table.specs.Ranges.{IsStop}
use Rattle.report_table.proofs.writing.stops_bytes.Given as goal

-- the bytes of the shutdowns so far, and their ranges
abbrev pub invariant-loop-stop : goal.invariant-loop-stop
invariant-loop-stop l =
    (l.out.items ≡ flat_map stop_bytes (take l.stop-index l.stops)) × AllByRecursion IsStop (take l.stop-index l.stops)
