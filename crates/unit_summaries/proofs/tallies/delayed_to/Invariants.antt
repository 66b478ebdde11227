use Rattle.std.proofs.Common.{◌≡◌, ◌+◌, ◌++◌, map}
use Rattle.list_words.specs.Ranges.{until, from_to}
use Rattle.ldar_law.specs.Percent as percent
use Rattle.unit_summaries.proofs.tallies.delayed_to.Given as goal

abbrev pub invariant-loop-past : goal.invariant-loop-past
invariant-loop-past l =
    l.delayed.items ++ map (λ q. percent.has_delay_on (percent.judging_day l.startup q l.day) l.tags) (until (l.past + 1) (l.quarter + 1))
    ≡ map (λ q. percent.has_delay_on (percent.judging_day l.startup q l.day) l.tags) (from_to 1 l.quarter)
