use Rattle.std.proofs.Common.{◌≡◌, ◌*◌, List, take}
use Rattle.std.specs.List.{flat_map, AllByRecursion}
use Rattle.ldar_law.specs.declared.delay.Stop.{Stop}
use Rattle.report_table.specs.CellBytes.{stop_bytes, stops_bytes}
use Rattle.report_table.specs.Ranges.{IsStop}
use Rattle.report_table.proofs.reading.stops_of.Given as goal

-- the bytes so far spell the shutdowns so far, which begin each list that the bytes spell
abbrev pub invariant-loop-at : goal.invariant-loop-at
invariant-loop-at l =
    (take (4 * l.at) l.bytes ≡ flat_map stop_bytes l.stops.items)
    × ((given : List Stop) → AllByRecursion IsStop given → l.bytes ≡ stops_bytes given → l.stops.items ≡ take l.at given)
