use Rattle.std.proofs.Common.{sym, subst}
use Rattle.unit_summaries.specs.Says.{IsUnitSaid}
use Rattle.unit_summaries.proofs.AskedLemmas.{unit_said}
use Rattle.office_views.specs.Sources.{facts_from}
use Rattle.office_views.proofs.members.summary_of.Goals as goal

pub returns : goal.returns
returns c =
    let source = c.args.source.now in
    let facts = facts_from source in
    record {
      value = subst (IsUnitSaid facts c.args.unit) (sym c.in-Some.ensures.value)
          (unit_said facts _ _ c.args.unit source.summaries.now c.requires.ready.ready.sound c.requires.ready.renewed);
    }

pub unreachable-requires : goal.unreachable-requires
unreachable-requires c =
    let source = c.args.source.now in
    let facts = facts_from source in
    absurd (subst (IsUnitSaid facts c.args.unit) (sym c.in-None.ensures.value)
    (unit_said facts _ _ c.args.unit source.summaries.now c.requires.ready.ready.sound c.requires.ready.renewed))
