use Rattle.std.proofs.Common.{◌+◌, nat_lt, rules, arith}
use Rattle.std.proofs.lemmas.List.Sorted.{IsPartitionPoint-from_clause, IsPartitionedBy-ltb}
use Rattle.ldar_law.specs.declared.event.Event.{Event}
use Rattle.monitor_calendar.proofs.Rising.{days_rise}
use Rattle.monitor_calendar.proofs.asked.Asked.first_listed.Goals as goal

pub returns-clause-value : goal.returns-clause-value
returns-clause-value c =
    let events = c.args.self.now.events.now in
    let day = c.args.self.now.day in
    IsPartitionPoint-from_clause (λ (e : Event). nat_lt (e.key.day + 5 + 366) day) events c.partition_point.result c.partition_point.ensures.partitioned
    (IsPartitionedBy-ltb (λ (e : Event). e.key.day + 5 + 366) events day (λ i j d le within. omega
    (arith, days_rise events c.args.self.now.events_ordered i j d le within))) (search rules)
