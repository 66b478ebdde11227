use Rattle.std.proofs.Common.{◌≡◌, ◌++◌, drop}
use Rattle.std.specs.List.{filter_map}
use Rattle.ldar_law.specs.Reports as law
use Rattle.semiannual_report.proofs.lines.put_delays.Given as goal

abbrev pub invariant-loop-tag : goal.invariant-loop-tag
invariant-loop-tag l =
    l.lines.items ++ filter_map (law.delay_of l.first l.last) (drop l.tag-index l.tags)
    ≡ l.initial.lines.items ++ filter_map (law.delay_of l.first l.last) l.tags
