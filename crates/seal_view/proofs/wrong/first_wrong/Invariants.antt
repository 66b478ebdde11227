use Rattle.std.proofs.Common.{◌≡◌, drop}
use Rattle.fact_kinds.specs.Facts.{facts_to}
use Rattle.seal_view.specs.View.{first_wrong, is_pump_of}
use Rattle.seal_view.proofs.Lowest.{lowest}
use Rattle.seal_view.proofs.wrong.first_wrong.Given as goal

abbrev pub invariant-loop-row : goal.invariant-loop-row
invariant-loop-row g l =
    let passes = is_pump_of l.unit (facts_to l.day (g.H.Histories.kept l.histories)) in
    lowest l.first (first_wrong passes (drop l.row-index l.rows)) ≡ first_wrong passes l.rows
