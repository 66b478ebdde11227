use Rattle.std.proofs.Common.{◌≡◌, take}
use Rattle.std.specs.List.{filter_map, flat_map}
use Rattle.ldar_law.specs.Reports as law
use Rattle.semiannual_report.proofs.lines.delay_lines.Given as goal

abbrev pub invariant-loop-sheet : goal.invariant-loop-sheet
invariant-loop-sheet l =
    l.lines.items ≡ flat_map (λ sheet. filter_map (law.delay_of l.first l.last) sheet.tags) (take l.sheet-index l.sheets)
