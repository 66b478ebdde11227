use Rattle.std.proofs.Common.{sym, subst}
use Rattle.unit_summaries.specs.Says.{IsSaid}
use Rattle.office_views.specs.Sources.{facts_from}
use Rattle.office_views.proofs.HistoryLemmas.{component_said}
use Rattle.office_views.proofs.histories.summary_of.Goals as goal

pub returns : goal.returns
returns c =
    let source = c.args.source.now in
    let item = c.args.item.now in
    let facts = facts_from source in
    record {
      value = subst (IsSaid facts item.component) (sym c.in-Some.ensures.value)
          (component_said facts _ _ source.summaries.now item c.requires.ready.ready.sound c.requires.ready.renewed c.requires.entered);
    }

pub unreachable-requires : goal.unreachable-requires
unreachable-requires c =
    let source = c.args.source.now in
    let item = c.args.item.now in
    let facts = facts_from source in
    absurd (subst (IsSaid facts item.component) (sym c.in-None.ensures.value)
    (component_said facts _ _ source.summaries.now item c.requires.ready.ready.sound c.requires.ready.renewed c.requires.entered))
