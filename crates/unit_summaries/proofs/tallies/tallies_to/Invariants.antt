use Rattle.std.proofs.Common.{take}
use Rattle.unit_summaries.specs.Known.{all_in_law}
use Rattle.unit_summaries.specs.Tallied.{AreTallies}
use Rattle.unit_summaries.proofs.tallies.tallies_to.Given as goal

abbrev pub invariant-loop-component : goal.invariant-loop-component
invariant-loop-component l =
    AreTallies l.startup l.fn.day (all_in_law l.stops (take l.component-index l.components)) l.quarter l.tallies.items
