use Rattle.std.proofs.Common.{ap, ◌∙◌, arith}
use Rattle.std.proofs.lemmas.List.{take_all}
use Rattle.ldar_law.specs.Units.{tallies_to}
use Rattle.unit_summaries.specs.Known.{IsInOrder, all_in_law}
use Rattle.unit_summaries.proofs.ListLemmas.{all_item}
use Rattle.unit_summaries.proofs.TallyLemmas.{room_for_one, tallies_are, tallies_more}
use Rattle.unit_summaries.proofs.tallies.tallies_to.Goals as goal

pub loop-component-init : goal.loop-component-init
loop-component-init c = c.in_ok-tallies.ensures.value c.args.startup c.args.day

pub add_component-requires-clause-count : goal.add_component-requires-clause-count
add_component-requires-clause-count c = omega (arith, c.loop-component.tallies.ok, c.loop-component.invariant.count)

pub add_component-requires-clause-room : goal.add_component-requires-clause-room
add_component-requires-clause-room c =
    let a = c.args in
    let l = c.loop-component in
    room_for_one a.stops.now a.components.now l.component-index a.startup a.day a.quarter l.tallies.items c.loop-component-test.true c.requires.few l.invariant

pub loop-component-preserved : goal.loop-component-preserved
loop-component-preserved c =
    let a = c.args in
    let l = c.loop-component in
    tallies_more a.stops.now a.components.now l.component-index c.component-item.result c.loop-component-test.true c.component-item.is
    a.startup a.day a.quarter l.tallies.items c.add_component.new.tallies.items l.invariant c.in_ok-add_component.ensures.put

pub returns : goal.returns
returns c =
    let a = c.args in
    let l = c.loop-component in
    record {
      value = tallies_are a.startup a.day a.quarter _ l.tallies.items l.invariant
          ∙ ap (λ cs. tallies_to a.startup a.day (all_in_law a.stops.now cs) a.quarter) (take_all l.component-index a.components.now (omega arith));
    }

pub add_component-requires-clause-ordered : goal.add_component-requires-clause-ordered
add_component-requires-clause-ordered c =
    let a = c.args in
    all_item IsInOrder a.components.now c.loop-component.component-index c.component-item.result c.requires.ordered c.loop-component-test.true
    c.component-item.is
