use Rattle.std.proofs.Common.{◌≡◌, take, map}
use Rattle.ldar_law.specs.Tags as law
use Rattle.unit_summaries.proofs.tags.tags_by.Given as goal

abbrev pub invariant-loop-span : goal.invariant-loop-span
invariant-loop-span l = l.tags.items ≡ map (law.tag_of l.fn.component l.events l.stops) (take l.span-index l.spans)
