use Rattle.std.proofs.Common.{sym, ap, ◌∙◌, subst}
use Rattle.list_words.specs.Order.{Ascends}
use Rattle.fact_kinds.specs.Facts.{goes_first}
use Rattle.fact_kinds.specs.Named.{component_of, is_numbered}
use Rattle.fact_store.specs.Kept.{facts_in}
use Rattle.ldar_law.specs.Equipment.{classes_of}
use Rattle.ldar_law.specs.Events.{events_in}
use Rattle.ldar_law.specs.Force.{limit_on}
use Rattle.ldar_law.specs.Spans.{spans_of}
use Rattle.ldar_law.proofs.SliceLemmas.{own_facts_suffice}
use Rattle.unit_summaries.proofs.ReadLemmas.{part_ascends}
use Rattle.unit_summaries.proofs.renewal.summary_of.Goals as goal

pub classes_of-requires : goal.classes_of-requires
classes_of-requires g c = record {
  ordered = subst (Ascends goes_first) (sym (c.deref.ensures.value ∙ c.in_ok-own.ensures.value))
      (part_ascends (λ e. is_numbered (component_of e.1.body) c.args.item.now.component) (facts_in c.args.lists.now.store.now) c.requires.ordered);
}

pub returns-clause-value : goal.returns-clause-value
returns-clause-value g c =
    let item = c.args.item.now in
    let facts = facts_in c.args.lists.now.store.now in
    record {
      classes = c.new.ensures.value ∙ c.in_ok-classes.ensures.value
          ∙ ap (classes_of item.component) (c.deref.ensures.value ∙ c.in_ok-own.ensures.value) ∙ (own_facts_suffice item.component facts).classes;
      events = c.new-2.ensures.value ∙ c.in_ok-events.ensures.value
          ∙ ap (λ cs. events_in item cs (limit_on item cs) facts) (c.deref-2.ensures.value ∙ sym c.new.ensures.value);
      spans = c.new-3.ensures.value ∙ c.in_ok-spans.ensures.value ∙ ap (spans_of item.kind) (c.deref-4.ensures.value ∙ sym c.new-2.ensures.value);
    }
