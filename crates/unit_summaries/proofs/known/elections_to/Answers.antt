use Rattle.std.proofs.Common.{nat_le, rules}
use Rattle.std.proofs.lemmas.List.Sorted.{IsPartitionPoint-from_clause}
use Rattle.ldar_law.specs.declared.election.ElectionEntry.{ElectionEntry}
use Rattle.ldar_law.proofs.KeyFronts.{days_in_front, front_filtered}
use Rattle.unit_summaries.proofs.known.elections_to.Goals as goal

pub returns : goal.returns
returns c =
    let day = c.args.day in
    let elections = c.args.elections.now in
    let count = c.partition_point-count in
    record {
      value = front_filtered (λ election. nat_le election.key.day day) elections count.result count.ensures.bound
          (IsPartitionPoint-from_clause (λ election. nat_le election.key.day day) elections count.result count.ensures.partitioned
          (days_in_front (λ (election : ElectionEntry). election.key) day elections c.requires.ordered) (search rules));
    }
