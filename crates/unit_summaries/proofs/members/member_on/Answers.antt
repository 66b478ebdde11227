use Rattle.std.proofs.Common.{sym, subst}
use Rattle.fact_store.specs.Kept.{facts_in}
use Rattle.unit_summaries.specs.Says.{IsSaid}
use Rattle.unit_summaries.proofs.KnownLemmas.{classes_ascend, events_in_key_order, some_in_order, summary_orderly}
use Rattle.unit_summaries.proofs.members.member_on.Goals as goal

pub known_on-requires-clause-classes : goal.known_on-requires-clause-classes
known_on-requires-clause-classes c =
    let facts = facts_in c.args.store.now in
    let says = subst (IsSaid facts c.args.number) (sym c.in-Some.ensures.value) c.requires.said in
    classes_ascend facts c.args.number c.in-Some.summary.now says c.requires.ordered

pub known_on-requires-clause-events : goal.known_on-requires-clause-events
known_on-requires-clause-events c =
    let facts = facts_in c.args.store.now in
    let says = subst (IsSaid facts c.args.number) (sym c.in-Some.ensures.value) c.requires.said in
    events_in_key_order facts c.args.number c.in-Some.summary.now says c.requires.ordered

pub returns-in-Some : goal.returns-in-Some
returns-in-Some c =
    let facts = facts_in c.args.store.now in
    let says = subst (IsSaid facts c.args.number) (sym c.in-Some.ensures.value) c.requires.said in
    record {
      value = c.known_on.ensures.value facts c.args.number says c.requires.ordered;
      ordered = some_in_order c.args.day c.in-Some.summary.now c.known_on.result
          (summary_orderly facts c.args.number c.in-Some.summary.now says c.requires.ordered) c.known_on.ensures.known;
    }

pub returns-in-None : goal.returns-in-None
returns-in-None c = absurd (subst (IsSaid (facts_in c.args.store.now) c.args.number) (sym c.in-None.ensures.value) c.requires.said)
