use Rattle.unit_summaries.proofs.KnownLemmas.{stops_are_by_day}
use Rattle.office_views.specs.Sources.{facts_from}
use Rattle.office_views.proofs.members.stops_on.Goals as goal

pub stops_on-requires : goal.stops_on-requires
stops_on-requires c = record {
  ordered = stops_are_by_day (facts_from c.args.source.now) c.args.unit c.summary_of.result.now c.summary_of.ensures.value c.requires.ready.ready.ordered;
}

pub returns : goal.returns
returns c = record {
  value = c.stops_on.ensures.value (facts_from c.args.source.now) c.args.unit c.summary_of.ensures.value c.requires.ready.ready.ordered;
}
