-- The comparison of the keys of rows, and the law that their `Ord` cites.
use Rattle.std.specs.Ordering.{nat_cmp, on, then_cmp}
use Rattle.std.specs.Cmp.{IsTotalOrder, nat_cmp_total, on_total, then_total}
use Rattle.std.specs.declared.cmp.Ordering.{Ordering}
use Rattle.dual_seals.specs.declared.row_key.RowKey.{RowKey}

-- compares by component, day and minute, and then seals before sensors
abbrev pub row_key_cmp : RowKey → RowKey → Ordering
row_key_cmp =
    then_cmp (on (λ k. k.component) nat_cmp) (then_cmp (on (λ k. k.day) nat_cmp) (then_cmp (on (λ k. k.minute) nat_cmp) (on (λ k. k.rank) nat_cmp)))

-- the comparison of row keys is a total order
pub row_key_cmp_total : IsTotalOrder row_key_cmp
row_key_cmp_total =
    then_total (on_total (λ k. k.component) nat_cmp_total) (then_total (on_total (λ k. k.day) nat_cmp_total) (then_total (on_total (λ k. k.minute) nat_cmp_total)
    (on_total (λ k. k.rank) nat_cmp_total)))
