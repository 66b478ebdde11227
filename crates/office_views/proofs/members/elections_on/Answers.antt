use Rattle.std.proofs.Common.{sym, subst}
use Rattle.list_words.specs.Order.{Ascends}
use Rattle.fact_kinds.specs.Facts.{is_earlier}
use Rattle.ldar_law.specs.declared.election.ElectionEntry.{ElectionEntry}
use Rattle.unit_summaries.proofs.KnownLemmas.{elections_ascend}
use Rattle.unit_summaries.proofs.ReadLemmas.{elections_in_order}
use Rattle.office_views.specs.Sources.{facts_by, facts_from}
use Rattle.unit_summaries.proofs.UnitLemmas.{front_ascends}
use Rattle.office_views.proofs.members.elections_on.Goals as goal

pub elections_on-requires : goal.elections_on-requires
elections_on-requires c = record {
  ordered = elections_ascend (facts_from c.args.source.now) c.args.unit c.summary_of.result.now c.summary_of.ensures.value c.requires.ready.ready.ordered;
}

pub returns : goal.returns
returns c =
    let source = c.args.source.now in
    let is = c.elections_on.ensures.value (facts_from source) c.args.unit c.summary_of.ensures.value c.requires.ready.ready.ordered in
    record {
      value = is;
      ordered = subst (Ascends (λ (a b : ElectionEntry). is_earlier a.key b.key)) (sym is)
          (elections_in_order c.args.unit (facts_by source) (front_ascends source.day (facts_from source) c.requires.ready.ready.ordered));
    }
