use Rattle.std.proofs.Common.{◌≡◌, take}
use Rattle.std.specs.List.{flat_map, AllByRecursion}
use Rattle.report_table.specs.CellBytes.{line_bytes}
use Rattle.report_table.specs.Ranges.{IsLine}
use Rattle.report_table.proofs.writing.delays_bytes.Given as goal

-- the bytes of the lines so far, and their ranges
abbrev pub invariant-loop-line : goal.invariant-loop-line
invariant-loop-line l =
    (l.out.items ≡ flat_map line_bytes (take l.line-index l.lines)) × AllByRecursion IsLine (take l.line-index l.lines)
