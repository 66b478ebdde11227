use Rattle.std.proofs.Common.{sym, subst}
use Rattle.fact_store.specs.Kept.{facts_in}
use Rattle.unit_summaries.specs.Says.{IsUnitSaid}
use Rattle.unit_summaries.proofs.KnownLemmas.{stops_are_by_day}
use Rattle.unit_summaries.proofs.counting.stops_by.Goals as goal

pub stops_on-requires : goal.stops_on-requires
stops_on-requires c =
    let facts = facts_in c.args.store.now in
    let says = subst (IsUnitSaid facts c.args.unit) (sym c.in-Some.ensures.value) c.requires.said in
    record { ordered = stops_are_by_day facts c.args.unit c.in-Some.summary.now says c.requires.ordered }

pub returns : goal.returns
returns c =
    let facts = facts_in c.args.store.now in
    let says = subst (IsUnitSaid facts c.args.unit) (sym c.in-Some.ensures.value) c.requires.said in
    record { value = c.stops_on.ensures.value facts c.args.unit says c.requires.ordered }

pub unreachable-requires : goal.unreachable-requires
unreachable-requires c = absurd (subst (IsUnitSaid (facts_in c.args.store.now) c.args.unit) (sym c.in-None.ensures.value) c.requires.said)
