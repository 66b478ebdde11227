use Rattle.std.proofs.Common.{◌≡◌, true, false, not, rules}
use Rattle.std.specs.List.Sorted.{IsPartitionPoint}
use Rattle.std.proofs.lemmas.Bool.{not-false, not-true}
use Rattle.std.proofs.lemmas.List.Sorted.{IsPartitionPoint-from_clause}
use Rattle.pump_seals.specs.Moments.{is_before}
use Rattle.pump_seals.proofs.MomentLemmas.{linear}
use Rattle.pump_seals.proofs.MomentOrder.{up_to_front}
use Rattle.pump_seals.proofs.RisingLists.{find_at, rising_front}
use Rattle.pump_seals.proofs.leaks_of_sort.count_to.Goals as goal

pub returns-clause-value : goal.returns-clause-value
returns-clause-value c =
    let moments = c.args.moments.now in
    let at = c.args.at.now in
    let parts : IsPartitionPoint (λ m. not (is_before at m) ≡ true) (λ m. not (is_before at m) ≡ false) moments c.partition_point.result =
    IsPartitionPoint-from_clause (λ m. not (is_before at m)) moments c.partition_point.result c.partition_point.ensures.partitioned
    (rising_front is_before (λ m. not (is_before at m)) (λ x y e f. up_to_front is_before linear at y x e f) moments c.requires.ordered)
    (search rules) in
    find_at (λ m. not (is_before at m)) (is_before at) (λ m e. not-true (is_before at m) e) (λ m e. not-false (is_before at m) e) moments
    c.partition_point.result parts
