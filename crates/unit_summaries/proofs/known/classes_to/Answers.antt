use Rattle.std.proofs.Common.{nat_le, rules}
use Rattle.std.proofs.lemmas.List.Sorted.{IsPartitionPoint-from_clause}
use Rattle.fact_kinds.specs.declared.class.Class.{Class}
use Rattle.fact_kinds.specs.declared.key.Key.{Key}
use Rattle.ldar_law.proofs.KeyFronts.{days_in_front, front_filtered}
use Rattle.unit_summaries.proofs.known.classes_to.Goals as goal

pub returns : goal.returns
returns c =
    let day = c.args.day in
    let classes = c.args.classes.now in
    let count = c.partition_point-count in
    record {
      value = front_filtered (λ entered. nat_le entered.0.day day) classes count.result count.ensures.bound
          (IsPartitionPoint-from_clause (λ entered. nat_le entered.0.day day) classes count.result count.ensures.partitioned
          (days_in_front (λ (entered : Key × Class). entered.0) day classes c.requires.ordered) (search rules));
    }
