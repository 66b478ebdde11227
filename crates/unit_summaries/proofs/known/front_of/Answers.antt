use Rattle.std.proofs.Common.{nat_le, rules}
use Rattle.std.proofs.lemmas.List.Sorted.{IsPartitionPoint-from_clause}
use Rattle.ldar_law.proofs.KeyFronts.{days_in_front, front_filtered}
use Rattle.ldar_law.specs.declared.event.Event.{Event}
use Rattle.unit_summaries.proofs.known.front_of.Goals as goal

pub returns : goal.returns
returns c =
    let day = c.args.day in
    let events = c.args.events.now in
    let count = c.partition_point-count in
    record {
      value = front_filtered (λ e. nat_le e.key.day day) events count.result count.ensures.bound
          (IsPartitionPoint-from_clause (λ e. nat_le e.key.day day) events count.result count.ensures.partitioned
          (days_in_front (λ (e : Event). e.key) day events c.requires.ordered) (search rules));
    }
