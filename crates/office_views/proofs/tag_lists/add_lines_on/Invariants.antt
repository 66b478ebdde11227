use Rattle.std.proofs.Common.{◌≡◌, ◌++◌, drop}
use Rattle.ldar_law.specs.Tags as shown
use Rattle.office_views.proofs.tag_lists.add_lines_on.Given as goal

abbrev pub invariant-loop-tag : goal.invariant-loop-tag
invariant-loop-tag l =
    l.lines.items ++ shown.delay_lines (drop l.tag-index l.tags) ≡ l.initial.lines.items ++ shown.delay_lines l.tags
