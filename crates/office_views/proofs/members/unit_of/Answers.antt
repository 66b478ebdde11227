use Rattle.fact_store.specs.Kept.{facts_in}
use Rattle.office_views.specs.Sources.{facts_by, facts_from}
use Rattle.unit_summaries.proofs.UnitLemmas.{front_once, known_few, known_in_law}
use Rattle.office_views.proofs.UnitLemmas.{components_fit}
use Rattle.office_views.proofs.members.unit_of.Goals as goal

pub returns : goal.returns
returns c =
    let source = c.args.source.now in
    let unit = c.args.unit in
    let facts = facts_by source in
    let all = facts_from source in
    let ready = c.requires.ready.ready in
    let known = c.in_ok-components.components.items in
    let are = c.in_ok-components.ensures.value in
    record {
      value = record {
        stops = c.stops_on.ensures.value;
        elections = c.elections_on.ensures.value;
        components = known_in_law unit facts known are c.stops_on.result.now c.stops_on.ensures.value (front_once source.day all ready.kept.once);
        few = known_few unit facts known are (components_fit source.day unit all (facts_in source.register.now) ready.ordered ready.kept);
        ordered = c.in_ok-components.ensures.ordered;
      };
    }
