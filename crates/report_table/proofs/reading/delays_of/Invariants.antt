use Rattle.std.proofs.Common.{◌≡◌, ◌*◌, List, take}
use Rattle.std.specs.List.{flat_map, AllByRecursion}
use Rattle.ldar_law.specs.declared.delay.DelayLine.{DelayLine}
use Rattle.report_table.specs.CellBytes.{line_bytes, delays_bytes}
use Rattle.report_table.specs.Ranges.{IsLine}
use Rattle.report_table.proofs.reading.delays_of.Given as goal

-- the bytes so far spell the lines so far, which begin each list that the bytes spell
abbrev pub invariant-loop-at : goal.invariant-loop-at
invariant-loop-at l =
    (take (26 * l.at) l.bytes ≡ flat_map line_bytes l.lines.items)
    × ((given : List DelayLine) → AllByRecursion IsLine given → l.bytes ≡ delays_bytes given → l.lines.items ≡ take l.at given)
