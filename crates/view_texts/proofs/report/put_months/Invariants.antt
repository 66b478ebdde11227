use Rattle.std.proofs.Common.{◌≡◌, ◌++◌}
use Rattle.std.specs.Prelude.{string_bytes}
use Rattle.std.specs.List.{flat_map}
use Rattle.list_words.specs.Ranges.{until}
use Rattle.ldar_law.specs.Texts.{month_line}
use Rattle.view_texts.proofs.report.put_months.Given as goal

-- with the lines of the remaining months the text would be complete
abbrev pub invariant-loop-place : goal.invariant-loop-place
invariant-loop-place l =
    string_bytes l.text ++ flat_map (month_line l.first l.cells) (until l.place 6)
    ≡ string_bytes l.initial.text ++ flat_map (month_line l.first l.cells) (until 0 6)
