use Rattle.std.proofs.Common.{◌≡◌, take, map}
use Rattle.ldar_law.specs.Shown as shown
use Rattle.unit_summaries.specs.Known.{all_in_law}
use Rattle.office_views.proofs.sheets.sheets_of.Given as goal

abbrev pub invariant-loop-component : goal.invariant-loop-component
invariant-loop-component l = l.sheets.items ≡ map shown.sheet_of (all_in_law l.stops (take l.component-index l.components))
