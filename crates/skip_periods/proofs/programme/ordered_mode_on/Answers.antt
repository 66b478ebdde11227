use Rattle.std.proofs.Common.{◌≡◌, nat_le, true, false, rules, subst, arith}
use Rattle.std.specs.List.Sorted.{IsPartitionPoint}
use Rattle.std.proofs.lemmas.List.Sorted.{IsPartitionPoint-from_clause}
use Rattle.skip_periods.proofs.ElectionLemmas.{elected_in_front, mode_in_front, no_mode_in_front}
use Rattle.skip_periods.proofs.programme.ordered_mode_on.Goals as goal

pub returns-then-count-eq0 : goal.returns-then-count-eq0
returns-then-count-eq0 c =
    let day = c.args.day in
    let elections = c.args.elections.now in
    let count = c.partition_point-count.result in
    let parts : IsPartitionPoint (λ e. nat_le e.key.day day ≡ true) (λ e. nat_le e.key.day day ≡ false) elections count =
    IsPartitionPoint-from_clause (λ e. nat_le e.key.day day) elections count c.partition_point-count.ensures.partitioned
    (elected_in_front day elections c.requires.ordered) (search rules) in
    let here = subst (IsPartitionPoint (λ e. nat_le e.key.day day ≡ true) (λ e. nat_le e.key.day day ≡ false) elections) c.if-count-eq0.true parts in
    record { value = no_mode_in_front day elections here }

pub returns-else-count-eq0 : goal.returns-else-count-eq0
returns-else-count-eq0 c =
    let day = c.args.day in
    let elections = c.args.elections.now in
    let count = c.partition_point-count.result in
    let parts : IsPartitionPoint (λ e. nat_le e.key.day day ≡ true) (λ e. nat_le e.key.day day ≡ false) elections count =
    IsPartitionPoint-from_clause (λ e. nat_le e.key.day day) elections count c.partition_point-count.ensures.partitioned
    (elected_in_front day elections c.requires.ordered) (search rules) in
    record { value = mode_in_front day elections count _ (omega arith) c.partition_point-count.ensures.bound parts }
