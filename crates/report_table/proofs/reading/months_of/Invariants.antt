use Rattle.std.proofs.Common.{◌≡◌, ℕ, ◌*◌, List, length, take}
use Rattle.std.specs.List.{flat_map}
use Rattle.fact_kinds.specs.Fields.{big_endian}
use Rattle.report_table.specs.CellBytes.{months_bytes}
use Rattle.report_table.specs.Ranges.{AreMonths}
use Rattle.report_table.proofs.reading.months_of.Given as goal

-- the bytes so far spell the numbers so far, which begin each list that the bytes spell
abbrev pub invariant-loop-place : goal.invariant-loop-place
invariant-loop-place l =
    (length l.numbers ≡ 36)
    × (take (4 * l.place) l.bytes ≡ flat_map (big_endian 4) (take l.place l.numbers))
    × ((given : List ℕ) → AreMonths given → l.bytes ≡ months_bytes given → take l.place l.numbers ≡ take l.place given)
