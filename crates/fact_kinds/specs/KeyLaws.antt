-- The law that the `Ord` of keys cites.
use Rattle.std.specs.Cmp.{IsTotalOrder, nat_cmp_total, on_total, then_total}
use Rattle.fact_kinds.specs.Facts.{key_cmp}

-- the comparison of keys is a total order
pub key_cmp_total : IsTotalOrder key_cmp
key_cmp_total =
    then_total (on_total (λ k. k.day) nat_cmp_total) (then_total (on_total (λ k. k.minute) nat_cmp_total) (then_total (on_total (λ k. k.handheld) nat_cmp_total)
    (then_total (on_total (λ k. k.number) nat_cmp_total) (on_total (λ k. k.index) nat_cmp_total))))
