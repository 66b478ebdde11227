use Rattle.std.proofs.Common.{nat_le, rules}
use Rattle.std.proofs.lemmas.List.Sorted.{IsPartitionPoint-from_clause}
use Rattle.pump_seals.specs.Moments.{mark_before}
use Rattle.pump_seals.proofs.MomentLemmas.{days_rise}
use Rattle.pump_seals.proofs.RisingLists.{rising_front}
use Rattle.pump_seals.proofs.on_duty.count_to.Goals as goal

pub returns-clause-value : goal.returns-clause-value
returns-clause-value c =
    let switches = c.args.switches.now in
    IsPartitionPoint-from_clause (λ m. nat_le m.at.day c.args.day) switches c.partition_point.result c.partition_point.ensures.partitioned
    (rising_front mark_before (λ m. nat_le m.at.day c.args.day) (λ a b e f. days_rise a.at b.at c.args.day e f) switches c.requires.ordered)
    (search rules)
