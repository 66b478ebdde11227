use Rattle.std.proofs.Common.{nat_lt, rules}
use Rattle.std.proofs.lemmas.List.Sorted.{IsPartitionPoint-from_clause}
use Rattle.pump_seals.specs.Moments.{row_before}
use Rattle.pump_seals.proofs.MomentLemmas.{components_rise}
use Rattle.pump_seals.proofs.RisingLists.{rising_front}
use Rattle.pump_seals.proofs.marks.count_below.Goals as goal

pub returns-clause-value : goal.returns-clause-value
returns-clause-value c =
    let rows = c.args.rows.now in
    IsPartitionPoint-from_clause (λ r. nat_lt r.component c.args.component) rows c.partition_point.result c.partition_point.ensures.partitioned
    (rising_front row_before (λ r. nat_lt r.component c.args.component) (λ a b e f. components_rise c.args.component a b e f) rows c.requires.ordered)
    (search rules)
