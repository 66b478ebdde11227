use Rattle.std.proofs.Common.{◌≡◌, ◌++◌, drop}
use Rattle.std.specs.List.{filter_map}
use Rattle.pump_seals.specs.Walked as spec
use Rattle.pump_seals.proofs.leaks_of_sort.LeaksOfSort.put_tags.Given as goal

abbrev pub invariant-loop-place : goal.invariant-loop-place
invariant-loop-place l =
    spec.IsRunAt l.self l.run l.place
    × (l.tags.items ++ filter_map (spec.tag_of l.self l.sort l.day) (drop l.place l.self.leaks.now)
    ≡ l.initial.tags.items ++ spec.tags_of l.self l.sort l.day)
