use Rattle.std.proofs.Common.{◌≡◌, take}
use Rattle.ldar_law.specs.Units as law
use Rattle.unit_summaries.specs.Known.{all_in_law}
use Rattle.office_views.proofs.tag_lists.tags_shown.Given as goal

abbrev pub invariant-loop-component : goal.invariant-loop-component
invariant-loop-component l = l.tags.items ≡ law.tag_list l.fn.day (all_in_law l.stops (take l.component-index l.components))
