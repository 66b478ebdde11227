use Rattle.std.proofs.Common.{rules, ◌≤◌, nat_lt, length, arith}
use Rattle.std.proofs.lemmas.List.Sorted.{IsPartitionPoint-from_clause}
use Rattle.method21_reading.proofs.NearLemmas.{before_in_front, not_before, parted_part, parted_whole}
use Rattle.method21_reading.proofs.near.count_before.Goals as goal

pub returns-clause-partitioned : goal.returns-clause-partitioned
returns-clause-partitioned c =
    let facts = c.args.facts.now in
    let day = c.args.day in
    let low = c.low_from-low in
    let high = c.high_from-high in
    let place = c.partition_point in
    let rises : low.result ≤ high.result = omega (arith, low.ensures.bound, high.ensures.bound) in
    let within : high.result ≤ length facts = high.ensures.bound.1 in
    parted_whole (λ e. nat_lt e.0.day day) facts low.result high.result rises within place.result place.ensures.bound low.ensures.before
    (λ k d above below. not_before _ day (high.ensures.behind k d above below))
    (IsPartitionPoint-from_clause (λ e. nat_lt e.0.day day) _ place.result place.ensures.partitioned
    (parted_part (λ e. nat_lt e.0.day day) facts low.result high.result rises within (before_in_front day facts c.requires.ordered)) (search rules))
