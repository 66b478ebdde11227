use Rattle.std.proofs.Common.{sym, ◌∙◌, subst}
use Rattle.list_words.specs.Order.{Ascends}
use Rattle.fact_kinds.specs.Facts.{goes_first}
use Rattle.fact_kinds.specs.Named.{tested_instrument, is_numbered}
use Rattle.fact_store.specs.Kept.{facts_in}
use Rattle.unit_summaries.proofs.ReadLemmas.{part_ascends}
use Rattle.unit_summaries.proofs.instruments.made_ready.Goals as goal

pub new-requires : goal.new-requires
new-requires g c = record {
  ordered = subst (Ascends goes_first) (sym (c.deref.ensures.value ∙ c.in_ok-tests.ensures.value))
      (part_ascends (λ e. is_numbered (tested_instrument e.1.body) c.args.number) (facts_in c.args.lists.now.store.now) c.requires.ordered);
}
