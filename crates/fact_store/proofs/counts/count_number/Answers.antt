use Rattle.std.proofs.Common.{◌≡◌, ◌<◌, ◌+◌, length, cond, nat_eq, sym, ap, ◌∙◌, arith}
use Rattle.fact_store.specs.Lists.{value_at}
use Rattle.fact_store.proofs.ListLemmas.{counted_more, value_at-read}
use Rattle.fact_store.proofs.counts.count_number.Goals as goal

pub overflow_add-index_mut : goal.overflow_add-index_mut
overflow_add-index_mut c =
    let grown = c.grow_counts.new.counts in
    let at = c.from-at.result in
    let within : at < length grown.items = omega (arith, c.in_ok-grow_counts.ensures.long, grown.ok.0) in
    let read : value_at (λ c. c) 0 grown.items at ≡ c.index_mut.result.now =
    value_at-read (λ c. c) 0 grown.items at c.index_mut.result.now within c.index_mut.ensures.value in
    omega (arith, read, c.in_ok-grow_counts.ensures.same at, c.requires.few at)

pub returns-in_ok-grow_counts : goal.returns-in_ok-grow_counts
returns-in_ok-grow_counts c =
    let grown = c.grow_counts.new.counts in
    let at = c.from-at.result in
    let number : at ≡ c.in-Some.number = cc in
    let within : at < length grown.items = omega (arith, c.in_ok-grow_counts.ensures.long, grown.ok.0) in
    record {
      value = λ n. counted_more grown.items at c.index_mut.result.now within c.index_mut.ensures.value n
          ∙ rw (c.in-Some.is, sym number) (ap (λ m. m + cond (nat_eq at n) 1 0) (c.in_ok-grow_counts.ensures.same n));
    }
