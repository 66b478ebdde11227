use Rattle.std.proofs.Common.{nat_le, rules}
use Rattle.std.proofs.lemmas.List.Sorted.{IsPartitionPoint-from_clause}
use Rattle.ldar_law.specs.declared.delay.Stop.{Stop}
use Rattle.ldar_law.proofs.KeyFronts.{front_filtered}
use Rattle.unit_summaries.proofs.KnownLemmas.{days_in_order}
use Rattle.unit_summaries.proofs.known.stops_to.Goals as goal

pub returns : goal.returns
returns c =
    let day = c.args.day in
    let stops = c.args.stops.now in
    let count = c.partition_point-count in
    record {
      value = front_filtered (λ stop. nat_le stop.first day) stops count.result count.ensures.bound
          (IsPartitionPoint-from_clause (λ stop. nat_le stop.first day) stops count.result count.ensures.partitioned
          (days_in_order (λ (stop : Stop). stop.first) day stops c.requires.ordered) (search rules));
    }
