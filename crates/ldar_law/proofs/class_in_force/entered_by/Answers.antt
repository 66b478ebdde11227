use Rattle.std.proofs.Common.{nat_le, rules}
use Rattle.std.proofs.lemmas.List.Sorted.{IsPartitionPoint-from_clause}
use Rattle.ldar_law.proofs.ClassLemmas.{entered_in_front}
use Rattle.ldar_law.proofs.class_in_force.entered_by.Goals as goal

pub returns-clause-value : goal.returns-clause-value
returns-clause-value c =
    let classes = c.args.classes.now in
    let count = c.partition_point in
    IsPartitionPoint-from_clause (λ e. nat_le e.0.day c.args.day) classes count.result count.ensures.partitioned
    (entered_in_front c.args.day classes c.requires.ordered) (search rules)
