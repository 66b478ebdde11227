use Rattle.std.proofs.Common.{◌≡◌, ◌++◌, take, filter}
use Rattle.ldar_law.specs.Tags as shown
use Rattle.office_views.proofs.tag_lists.add_shown.Given as goal

abbrev pub invariant-loop-tag : goal.invariant-loop-tag
invariant-loop-tag l = l.tags.items ≡ l.initial.tags.items ++ filter (shown.is_shown l.fn.day) (take l.tag-index l.more)
