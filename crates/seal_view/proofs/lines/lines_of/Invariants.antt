use Rattle.std.proofs.Common.{◌≡◌, ◌++◌, drop}
use Rattle.std.specs.List.{flat_map}
use Rattle.fact_kinds.specs.Facts.{facts_to}
use Rattle.seal_view.specs.View.{lines_of, named, named_after}
use Rattle.seal_view.proofs.lines.lines_of.Given as goal

abbrev pub invariant-loop-row : goal.invariant-loop-row
invariant-loop-row g l =
    (l.lines.items ++ flat_map (lines_of l.day l.rows (facts_to l.day (g.H.Histories.kept l.fn.histories))) (named_after l.last (drop l.row-index l.rows))
    ≡ flat_map (lines_of l.day l.rows (facts_to l.day (g.H.Histories.kept l.fn.histories))) (named l.rows))
    × (l.histories ≡ l.fn.histories)
