use Rattle.std.proofs.Common.{rules, not, sym, ap, ◌∙◌, inl, inr}
use Rattle.std.proofs.lemmas.Bool.{cases_Bool, false≢true}
use Rattle.std.proofs.lemmas.List.Sorted.{IsPartitionPoint-from_clause}
use Rattle.fact_kinds.specs.Facts.{is_earlier, goes_first}
use Rattle.fact_kinds.proofs.KeyOrder.{strict_earlier}
use Rattle.method21_reading.proofs.FrontLemmas.{stands_in_front}
use Rattle.method21_reading.proofs.PlaceLemmas.{not_is_true, not_is_false}
use Rattle.method21_reading.proofs.near.count_up_to.Goals as goal

pub returns-clause-partitioned : goal.returns-clause-partitioned
returns-clause-partitioned c =
    let facts = c.args.facts.now in
    let key = c.args.key.now in
    let place = c.partition_point in
    let in_front = stands_in_front goes_first (λ e. not (is_earlier key e.0))
    (λ x y before t. elim (cases_Bool (is_earlier key x.0)) [
      | inl s ↦ absurd (false≢true (sym (not_is_true (is_earlier key y.0) t) ∙ (strict_earlier (λ k. k)).transitive key x.0 y.0 s before))
      | inr f ↦ ap not f
    ]) facts c.requires.ordered in
    let parts = IsPartitionPoint-from_clause (λ e. not (is_earlier key e.0)) _ place.result place.ensures.partitioned in_front (search rules) in (
      λ k d above below. not_is_true _ (parts.0 k d above below),
      λ k d above below. not_is_false _ (parts.1 k d above below),
    )
