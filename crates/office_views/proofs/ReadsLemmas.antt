-- The number of facts that name the instrument of a test, with more facts.
use Rattle.std.proofs.Common.{◌≡◌, ℕ, ◌≤◌, Bool, cond, Option, Some, None, List, ◌++◌, refl, sym, ap, ◌∙◌, subst, arith}
use Rattle.std.specs.Prelude.{count_by, sum_by}
use Rattle.std.specs.List.{flat_map}
use Rattle.std.specs.Option.{option_map_or}
use Rattle.std.proofs.lemmas.List.Sorted.{sum_by-IsPermutation}
use Rattle.std.proofs.lemmas.List.Sums.{sum_by-append, sum_by-le-sum_by}
use Rattle.list_words.specs.Order.{in_order}
use Rattle.list_words.proofs.Ascending.{in_order_permutes}
use Rattle.fact_kinds.specs.declared.batch.Batch.{Batch}
use Rattle.fact_kinds.specs.declared.body.FactBody.{FactBody}
use Rattle.fact_kinds.specs.Facts.{Entry, entries_of, facts_of, goes_first}
use Rattle.fact_kinds.specs.Named.{tested_instrument}
use Rattle.fact_kinds.specs.Stated.{Stated}
use Rattle.history_laws.specs.MoreLaws.{with_batch}
use Rattle.touched_readings.specs.Windows.{reads_for, uses}
use Rattle.office_views.proofs.KeyLemmas.{entries_more}

-- a test as a number
abbrev one_if : Bool → ℕ
one_if b = cond b 1 0

-- a count is a sum
count_is : {X : Type 0} (p : X → Bool) (xs : List X) → count_by p xs ≡ sum_by (λ x. one_if (p x)) xs
count_is p xs = refl

-- no fewer are counted in key order with more
count_grows : (p : Entry → Bool) (xs ys : List Entry) → count_by p xs ≤ count_by p (in_order goes_first (xs ++ ys))
count_grows p xs ys =
    omega (
      arith,
      count_is p xs,
      count_is p (in_order goes_first (xs ++ ys)),
      sum_by-IsPermutation (λ e. one_if (p e)) (xs ++ ys) (in_order goes_first (xs ++ ys)) (in_order_permutes goes_first (xs ++ ys)),
      sum_by-append (λ e. one_if (p e)) xs ys,
    )

-- .. of the facts that use an instrument, if there is one
counts_grow : (xs ys : List Entry) (instrument : Option ℕ) → option_map_or (λ i. count_by (uses i) xs) instrument 0
    ≤ option_map_or (λ i. count_by (uses i) (in_order goes_first (xs ++ ys))) instrument 0
counts_grow xs ys None = omega arith
counts_grow xs ys (Some i) = count_grows (uses i) xs ys

-- .. of those that name the instrument of a test
reads_grow : (xs ys : List Entry) (body : FactBody) → reads_for xs body ≤ reads_for (in_order goes_first (xs ++ ys)) body
reads_grow xs ys body = counts_grow xs ys (tested_instrument body)

-- for the tests of a batch no more facts are read of those that arrived than name their instruments among all facts with the batch
pub reads_within : (arrived : List Entry) (history : List Batch) (batch : Batch) → arrived ≡ flat_map entries_of history → (facts : List Stated)
    → sum_by (λ fact. reads_for arrived fact.body) facts ≤ sum_by (λ fact. reads_for (facts_of (with_batch history batch)) fact.body) facts
reads_within arrived history batch came facts =
    subst (λ es. sum_by (λ (fact : Stated). reads_for arrived fact.body) facts ≤ sum_by (λ (fact : Stated). reads_for (in_order goes_first es) fact.body) facts)
    (sym (entries_more history batch ∙ ap (λ es. es ++ entries_of batch) (sym came)))
    (sum_by-le-sum_by (λ (fact : Stated). reads_for arrived fact.body)
    (λ (fact : Stated). reads_for (in_order goes_first (arrived ++ entries_of batch)) fact.body) facts
    (λ fact. reads_grow arrived (entries_of batch) fact.body))
