use Rattle.std.proofs.Common.{nat_lt, rules, arith}
use Rattle.std.proofs.lemmas.Bool.{ltb-true, lt-ltb}
use Rattle.std.proofs.lemmas.List.Sorted.{IsPartitionPoint-from_clause}
use Rattle.fact_store.proofs.OrderLemmas.{front_passes}
use Rattle.component_register.specs.Classes.{day_first}
use Rattle.component_register.proofs.classes.index_for.Goals as goal

pub returns-clause-value : goal.returns-clause-value
returns-clause-value c =
    let classes = c.args.classes.now in
    let day = c.args.day in
    IsPartitionPoint-from_clause (λ e. nat_lt e.0.day day) classes c.partition_point.result c.partition_point.ensures.partitioned
    (front_passes day_first (λ e. nat_lt e.0.day day)
    (λ x y less t. lt-ltb x.0.day day (omega (arith, ltb-true x.0.day y.0.day less, ltb-true y.0.day day t))) classes c.requires)
    (search rules)
