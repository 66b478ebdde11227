use Rattle.std.proofs.Common.{◌≡◌, ◌++◌, drop}
use Rattle.std.specs.List.{filter_map}
use Rattle.ldar_law.specs.Equipment as law
use Rattle.unit_summaries.proofs.entries.elections_of.Given as goal

abbrev pub invariant-loop-e : goal.invariant-loop-e
invariant-loop-e l =
    l.elections.items ++ filter_map (λ e. law.election_entered l.number e.0 e.1.body) (drop l.e-index l.facts)
    ≡ filter_map (λ e. law.election_entered l.number e.0 e.1.body) l.facts
