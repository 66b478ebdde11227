use Rattle.std.proofs.Common.{sym, ap, ◌∙◌, subst}
use Rattle.list_words.specs.Order.{Ascends}
use Rattle.fact_kinds.specs.Facts.{goes_first}
use Rattle.fact_kinds.specs.Named.{unit_of, is_numbered}
use Rattle.fact_store.specs.Kept.{facts_in}
use Rattle.ldar_law.specs.Equipment.{elections_of, of_unit}
use Rattle.ldar_law.proofs.SliceLemmas.{unit_facts_judge, unit_facts_suffice}
use Rattle.unit_summaries.proofs.ReadLemmas.{part_ascends}
use Rattle.unit_summaries.proofs.renewal.unit_summary_of.Goals as goal

pub elections_of-requires : goal.elections_of-requires
elections_of-requires g c = record {
  ordered = subst (Ascends goes_first) (sym (c.deref-2.ensures.value ∙ c.in_ok-own.ensures.value))
      (part_ascends (λ e. is_numbered (unit_of e.1.body) c.args.unit) (facts_in c.args.lists.now.store.now) c.requires.ordered);
}

pub returns-clause-value : goal.returns-clause-value
returns-clause-value g c =
    let unit = c.args.unit in
    let facts = facts_in c.args.lists.now.store.now in
    record {
      of_unit = c.in_ok-of_unit.ensures.value ∙ ap (of_unit unit) (c.deref.ensures.value ∙ c.in_ok-own.ensures.value) ∙ unit_facts_judge unit facts;
      elections = c.new.ensures.value ∙ c.in_ok-elections.ensures.value
          ∙ ap (elections_of unit) (c.deref-2.ensures.value ∙ c.in_ok-own.ensures.value) ∙ (unit_facts_suffice unit facts).elections;
    }
