use Rattle.std.proofs.Common.{◌≡◌, ◌∙◌}
use Rattle.std.proofs.lemmas.Result.{IfOk-weaker}
use Rattle.std.specs.Option.{option_map}
use Rattle.ldar_law.specs.Equipment.{equipment_of}
use Rattle.ldar_law.specs.Units.{history_of_component}
use Rattle.unit_summaries.proofs.KnownLemmas.{classes_ascend, events_in_key_order}
use Rattle.office_views.specs.Sources.{facts_by, facts_from}
use Rattle.office_views.proofs.HistoryLemmas.{history_is}
use Rattle.office_views.proofs.histories.events_on.Goals as goal

pub known_on-known-requires-clause-classes : goal.known_on-known-requires-clause-classes
known_on-known-requires-clause-classes c =
    classes_ascend (facts_from c.args.source.now) c.args.item.now.component c.summary_of.result.now c.summary_of.ensures.value c.requires.ready.ready.ordered

pub known_on-known-requires-clause-events : goal.known_on-known-requires-clause-events
known_on-known-requires-clause-events c =
    events_in_key_order (facts_from c.args.source.now) c.args.item.now.component c.summary_of.result.now c.summary_of.ensures.value
    c.requires.ready.ready.ordered

pub returns : goal.returns
returns c =
    let source = c.args.source.now in
    let number = c.args.item.now.component in
    let facts = facts_by source in
    let is = c.known_on-known.ensures.value (facts_from source) number c.summary_of.ensures.value c.requires.ready.ready.ordered in
    record {
      value = IfOk-weaker c.history_of.result
          (λ history. history ≡ option_map (λ k. record { equipment = k.item; events = k.events.now }) c.known_on-known.result)
          (λ history. history ≡ history_of_component number facts)
          (λ history made. made ∙ history_is facts c.known_on-known.result (equipment_of number facts) is) c.history_of.ensures.value;
    }
