use Rattle.std.proofs.Common.{◌≡◌, ◌++◌}
use Rattle.std.specs.List.{filter_map}
use Rattle.list_words.specs.Ranges.{until}
use Rattle.ldar_law.specs.Reports as law
use Rattle.report_filing.proofs.amend.amended_cells.Given as goal

-- the changes so far, and those at the remaining places
abbrev pub invariant-loop-place : goal.invariant-loop-place
invariant-loop-place l =
    l.changes.items ++ filter_map (law.amended_at l.before l.now) (until l.place 36) ≡ law.amended l.old l.new
