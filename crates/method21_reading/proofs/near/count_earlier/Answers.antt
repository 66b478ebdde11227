use Rattle.std.proofs.Common.{rules, ◌≤◌, length, arith}
use Rattle.std.proofs.lemmas.List.Sorted.{IsPartitionPoint-from_clause}
use Rattle.fact_kinds.specs.Facts.{is_earlier, goes_first}
use Rattle.fact_kinds.proofs.KeyOrder.{strict_earlier}
use Rattle.method21_reading.proofs.FrontLemmas.{stands_in_front}
use Rattle.method21_reading.proofs.NearLemmas.{earlier_by_day, no_earlier_by_day, parted_part, parted_whole}
use Rattle.method21_reading.proofs.near.count_earlier.Goals as goal

pub returns-clause-partitioned : goal.returns-clause-partitioned
returns-clause-partitioned c =
    let facts = c.args.facts.now in
    let key = c.args.key.now in
    let low = c.low_from-low in
    let high = c.high_from-high in
    let place = c.partition_point in
    let rises : low.result ≤ high.result = omega (arith, low.ensures.bound, high.ensures.bound) in
    let within : high.result ≤ length facts = high.ensures.bound.1 in
    let parted = stands_in_front goes_first (λ e. is_earlier e.0 key)
    (λ x y before t. (strict_earlier (λ k. k)).transitive x.0 y.0 key before t) facts c.requires.ordered in
    parted_whole (λ e. is_earlier e.0 key) facts low.result high.result rises within place.result place.ensures.bound
    (λ k d above below. earlier_by_day _ key (low.ensures.before k d above below))
    (λ k d above below. no_earlier_by_day _ key (high.ensures.behind k d above below))
    (IsPartitionPoint-from_clause (λ e. is_earlier e.0 key) _ place.result place.ensures.partitioned
    (parted_part (λ e. is_earlier e.0 key) facts low.result high.result rises within parted) (search rules))
