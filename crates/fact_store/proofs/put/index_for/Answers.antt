use Rattle.std.proofs.Common.{◌≡◌, true, false, rules}
use Rattle.std.specs.List.Sorted.{IsPartitionPoint}
use Rattle.std.proofs.lemmas.List.Sorted.{IsPartitionPoint-from_clause}
use Rattle.fact_store.specs.Takes.{is_up_to}
use Rattle.fact_store.proofs.PlaceLemmas.{up_to_in_front, put_behind}
use Rattle.fact_store.proofs.put.index_for.Goals as goal

pub returns-clause-value : goal.returns-clause-value
returns-clause-value c =
    let arrived = c.args.arrived.now in
    let key = c.args.key.now in
    let places = c.args.places.now in
    let parts : IsPartitionPoint (λ p. is_up_to arrived key p ≡ true) (λ p. is_up_to arrived key p ≡ false) places c.partition_point.result =
    IsPartitionPoint-from_clause (is_up_to arrived key) places c.partition_point.result c.partition_point.ensures.partitioned
    (up_to_in_front arrived key places c.requires.held c.requires.ordered) (search rules) in
    λ fact. put_behind arrived key fact places c.partition_point.result c.requires.held c.partition_point.ensures.bound parts.0 parts.1
