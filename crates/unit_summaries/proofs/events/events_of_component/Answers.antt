use Rattle.std.proofs.Common.{◌++◌, Option, sym, ap, ◌∙◌, arith}
use Rattle.std.specs.List.{filter_map}
use Rattle.std.specs.Option.{option_to_list}
use Rattle.std.proofs.lemmas.List.{take_all}
use Rattle.fact_kinds.specs.Facts.{Entry}
use Rattle.ldar_law.specs.declared.event.Event.{Event}
use Rattle.ldar_law.specs.Events.{event_of, fitness_among}
use Rattle.ldar_law.specs.Force.{limit_on}
use Rattle.method21_reading.specs.declared.rules.Rules.{Rules}
use Rattle.fact_store.specs.Kept.{facts_in}
use Rattle.unit_summaries.proofs.ListLemmas.{given_next}
use Rattle.unit_summaries.proofs.CostLemmas.{uses_at}
use Rattle.unit_summaries.proofs.EventLemmas.{events_are}
use Rattle.unit_summaries.proofs.events.events_of_component.Goals as goal

pub loop-e-preserved : goal.loop-e-preserved
loop-e-preserved g c =
    let a = c.args in
    let l = c.loop-e in
    let e = c.e-item.result in
    let limit = limit_on a.item.now a.classes.now in
    let facts = facts_in a.lists.now.store.now in
    let event : Entry → Option Event = λ e. event_of a.item.now a.classes.now limit e (fitness_among limit facts e) in
    let today = c.moved_to-standing.ensures.today in
    let fitness = c.in_ok-fitness.ensures.value limit (ap (λ (r : Rules). r.limit) today) in
    record {
      stands = c.moved_to-standing.ensures.value;
      made = c.in_ok-push_event.ensures.taken a.classes.now limit today
          ∙ ap (λ fit. l.events.items ++ option_to_list (event_of a.item.now a.classes.now limit e fit)) fitness
          ∙ ap (λ es. es ++ option_to_list (event e)) l.invariant.made
          ∙ sym (given_next event a.own.now l.e-index e c.loop-e-test.true c.e-item.is);
      ready = c.in_ok-fitness.ensures.ready;
      left = λ pool uses.
          omega (
            arith,
            c.in_ok-fitness.ensures.left pool (uses_at pool a.own.now l.e-index e c.loop-e-test.true c.e-item.is uses),
            l.invariant.left pool uses,
          );
    }

pub returns-in_err-fitness-clause-counted : goal.returns-in_err-fitness-clause-counted
returns-in_err-fitness-clause-counted g c = λ pool uses.
    omega (
      arith,
      c.fitness_at.ensures.counted pool (uses_at pool c.args.own.now c.loop-e.e-index c.e-item.result c.loop-e-test.true c.e-item.is uses),
      c.loop-e.invariant.left pool uses,
    )

pub returns-in_err-push_event-clause-counted : goal.returns-in_err-push_event-clause-counted
returns-in_err-push_event-clause-counted g c = λ pool uses.
    omega (
      arith,
      c.fitness_at.ensures.counted pool (uses_at pool c.args.own.now c.loop-e.e-index c.e-item.result c.loop-e-test.true c.e-item.is uses),
      c.loop-e.invariant.left pool uses,
    )

pub returns-clause-value : goal.returns-clause-value
returns-clause-value g c =
    let a = c.args in
    let l = c.loop-e in
    let limit = limit_on a.item.now a.classes.now in
    let facts = facts_in a.lists.now.store.now in
    let event : Entry → Option Event = λ e. event_of a.item.now a.classes.now limit e (fitness_among limit facts e) in
    l.invariant.made ∙ ap (filter_map event) (take_all l.e-index a.own.now (omega arith) ∙ c.requires.own)
    ∙ events_are a.item.now a.classes.now limit facts
