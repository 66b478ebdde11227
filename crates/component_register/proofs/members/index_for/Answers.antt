use Rattle.std.proofs.Common.{◌≡◌, nat_le, true, false, rules, arith}
use Rattle.std.specs.List.Sorted.{IsPartitionPoint}
use Rattle.std.specs.Prelude.{nat_lt}
use Rattle.std.proofs.lemmas.Bool.{leb-true, leb-false, lt-ltb, le-ltb, le-leb}
use Rattle.std.proofs.lemmas.List.Sorted.{IsPartitionPoint-from_clause}
use Rattle.list_words.proofs.PutLemmas.{put_is_insert}
use Rattle.fact_store.proofs.OrderLemmas.{front_passes}
use Rattle.component_register.proofs.members.index_for.Goals as goal

pub returns-clause-value : goal.returns-clause-value
returns-clause-value c =
    let members = c.args.members.now in
    let component = c.args.component in
    let parts : IsPartitionPoint (λ y. nat_le y component ≡ true) (λ y. nat_le y component ≡ false) members c.partition_point.result =
    IsPartitionPoint-from_clause (λ y. nat_le y component) members c.partition_point.result c.partition_point.ensures.partitioned
    (front_passes nat_le (λ y. nat_le y component)
    (λ x y le t. le-leb x component (omega (arith, leb-true x y le, leb-true y component t))) members c.requires)
    (search rules) in
    put_is_insert nat_lt component members c.partition_point.result c.partition_point.ensures.bound
    (λ k d low high. le-ltb component _ (leb-true _ component (parts.0 k d low high)))
    (λ k d low high. lt-ltb component _ (leb-false _ component (parts.1 k d low high)))
