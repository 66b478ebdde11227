use Rattle.std.proofs.Common.{cond, nat_eq, ap, ◌∙◌, arith}
use Rattle.fact_store.specs.Lists.{value_at}
use Rattle.unit_summaries.proofs.RowLemmas.{count_set}
use Rattle.unit_summaries.proofs.counts.set_count.Goals as goal

pub returns : goal.returns
returns c = record {
  value = λ n.
      count_set c.args.counts.now c.from.result n c.args.count (omega (arith, c.from.ensures, c.requires.within))
      ∙ ap (λ k. cond (nat_eq n k) c.args.count (value_at (λ x. x) 0 c.args.counts.now n)) c.from.ensures;
}
