use Rattle.std.proofs.Common.{nat_lt, rules}
use Rattle.std.proofs.lemmas.List.Sorted.{IsPartitionPoint-from_clause, IsPartitionedBy-ltb}
use Rattle.ldar_law.specs.declared.event.Event.{Event}
use Rattle.monitor_calendar.proofs.Rising.{days_rise}
use Rattle.monitor_calendar.proofs.period.count_before.Goals as goal

pub returns-clause-value : goal.returns-clause-value
returns-clause-value c =
    let events = c.args.events.now in
    IsPartitionPoint-from_clause (λ (e : Event). nat_lt e.key.day c.args.first) events c.partition_point.result c.partition_point.ensures.partitioned
    (IsPartitionedBy-ltb (λ (e : Event). e.key.day) events c.args.first (days_rise events c.requires.ordered)) (search rules)
