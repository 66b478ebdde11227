use Rattle.std.proofs.Common.{rules, ◌≤◌, nat_le, length}
use Rattle.std.proofs.lemmas.Bool.{ltb-true, lt-leb}
use Rattle.std.proofs.lemmas.List.Sorted.{IsPartitionPoint-from_clause}
use Rattle.method21_reading.proofs.NearLemmas.{up_to_in_front, parted_front, parted_by_front}
use Rattle.method21_reading.proofs.day.count_to.Goals as goal

pub returns-clause-partitioned : goal.returns-clause-partitioned
returns-clause-partitioned c =
    let facts = c.args.facts.now in
    let day = c.args.day in
    let high = c.high_from-high in
    let place = c.partition_point in
    let within : high.result ≤ length facts = high.ensures.bound.1 in
    parted_by_front (λ e. nat_le e.0.day day) facts high.result within place.result place.ensures.bound
    (λ k d above below. lt-leb _ day (ltb-true day _ (high.ensures.behind k d above below)))
    (IsPartitionPoint-from_clause (λ e. nat_le e.0.day day) _ place.result place.ensures.partitioned
    (parted_front (λ e. nat_le e.0.day day) facts high.result within (up_to_in_front day facts c.requires.ordered)) (search rules))
