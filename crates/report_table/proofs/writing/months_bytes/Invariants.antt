use Rattle.std.proofs.Common.{◌≡◌, ◌<◌, ◌^◌, take}
use Rattle.std.specs.List.{flat_map, AllByRecursion}
use Rattle.fact_kinds.specs.Fields.{big_endian}
use Rattle.report_table.proofs.writing.months_bytes.Given as goal

-- the bytes of the numbers so far, and their ranges
abbrev pub invariant-loop-number : goal.invariant-loop-number
invariant-loop-number l =
    (l.out.items ≡ flat_map (big_endian 4) (take l.number-index l.months)) × AllByRecursion (λ n. n < 2 ^ 32) (take l.number-index l.months)
