use Rattle.std.proofs.Common.{◌≡◌, take}
use Rattle.ldar_law.specs.Units as law
use Rattle.unit_summaries.specs.Known.{all_in_law}
use Rattle.office_views.proofs.tag_lists.delay_lines.Given as goal

abbrev pub invariant-loop-component : goal.invariant-loop-component
invariant-loop-component l = l.lines.items ≡ law.delay_list (all_in_law l.stops (take l.component-index l.components))
