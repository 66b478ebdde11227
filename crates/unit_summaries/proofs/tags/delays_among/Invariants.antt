use Rattle.std.proofs.Common.{◌≡◌, ◌++◌, drop}
use Rattle.std.specs.List.{filter_map}
use Rattle.ldar_law.specs.Tags as law
use Rattle.unit_summaries.proofs.tags.delays_among.Given as goal

abbrev pub invariant-loop-e : goal.invariant-loop-e
invariant-loop-e l =
    l.delays.items ++ filter_map law.delay_entry (drop l.e-index l.events) ≡ filter_map law.delay_entry l.events
