use Rattle.std.proofs.Common.{◌≡◌, List, take}
use Rattle.ldar_law.specs.declared.delay.Stop.{Stop}
use Rattle.ldar_law.specs.Units as law
use Rattle.unit_summaries.specs.Known.{all_in_law}
use Rattle.office_views.proofs.due.duties_at.Given as goal

abbrev pub invariant-loop-component : goal.invariant-loop-component
invariant-loop-component l =
    (of : List Stop) → l.all.items ≡ law.due_list l.startup l.fn.day l.skipped (all_in_law of (take l.component-index l.components))
