use Rattle.std.proofs.Common.{◌≡◌, ◌<◌, ◌+◌, ◌*◌, ◌^◌, ◌++◌, length, take}
use Rattle.std.specs.List.{flat_map}
use Rattle.list_words.specs.Ranges.{until}
use Rattle.ldar_law.specs.Reports as law
use Rattle.semiannual_report.proofs.cells.half_cells.Given as goal

-- the months so far are at their places, and the remaining ones are still to be written
abbrev pub invariant-loop-month : goal.invariant-loop-month
invariant-loop-month l =
    (length l.cells ≡ 36) × (length l.sheets < 2 ^ 32
    → take (6 * l.month) l.cells ++ flat_map (law.month_cells l.day l.sheets) (until (l.first + l.month) (l.first + 6))
    ≡ flat_map (law.month_cells l.day l.sheets) (until l.first (l.first + 6)))
