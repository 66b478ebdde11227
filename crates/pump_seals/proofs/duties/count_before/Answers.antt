use Rattle.std.proofs.Common.{◌≡◌, true, false, nat_le, nat_lt, rules}
use Rattle.std.specs.List.Sorted.{IsPartitionPoint}
use Rattle.std.proofs.lemmas.List.Sorted.{IsPartitionPoint-from_clause}
use Rattle.pump_seals.specs.Moments.{is_before}
use Rattle.pump_seals.proofs.MomentLemmas.{days_rise_below}
use Rattle.pump_seals.proofs.RisingLists.{find_at, rising_front}
use Rattle.pump_seals.proofs.SealedLemmas.{is_from, not_from}
use Rattle.pump_seals.proofs.duties.count_before.Goals as goal

pub returns-clause-value : goal.returns-clause-value
returns-clause-value c =
    let moments = c.args.moments.now in
    let first = c.args.first in
    let parts : IsPartitionPoint (λ m. nat_lt m.day first ≡ true) (λ m. nat_lt m.day first ≡ false) moments c.partition_point.result =
    IsPartitionPoint-from_clause (λ m. nat_lt m.day first) moments c.partition_point.result c.partition_point.ensures.partitioned
    (rising_front is_before (λ m. nat_lt m.day first) (λ a b e f. days_rise_below a b first e f) moments c.requires.ordered) (search rules) in
    find_at (λ m. nat_lt m.day first) (λ m. nat_le first m.day) (λ m e. not_from m.day first e) (λ m e. is_from m.day first e) moments
    c.partition_point.result parts
