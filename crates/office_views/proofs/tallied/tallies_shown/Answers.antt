use Rattle.std.proofs.Common.{◌≡◌, sym, subst}
use Rattle.std.proofs.lemmas.Result.{IfOk-weaker}
use Rattle.fact_store.specs.Kept.{facts_in}
use Rattle.history_laws.specs.DayLaws.{up_to}
use Rattle.history_laws.proofs.RangeLemmas.{members_fit}
use Rattle.ldar_law.specs.Shown.{view_day}
use Rattle.ldar_law.specs.Units.{components_of, tallies_to}
use Rattle.office_views.specs.Asked.{AreTalliesDue, AreTalliesOf}
use Rattle.office_views.proofs.tallied.tallies_shown.Goals as goal

pub tallies_on-requires-clause-few : goal.tallies_on-requires-clause-few
tallies_on-requires-clause-few c =
    members_fit (facts_in c.args.store.now) c.args.entry.now.unit c.requires.ready.kept.in_range c.requires.ready.kept.once

pub returns-in-Percent-clause-value : goal.returns-in-Percent-clause-value
returns-in-Percent-clause-value c =
    let entry = c.args.entry.now in
    let facts = facts_in c.args.store.now in
    let day = c.in-Percent.day in
    IfOk-weaker c.tallies_on.result (λ t. t.items ≡ tallies_to entry.startup day (components_of entry.unit (up_to day facts)) c.in-Percent.quarter)
    (λ t. AreTalliesOf c.args.request.now entry (up_to (view_day c.args.request.now) facts) t.items)
    (λ t is. subst (λ r. AreTalliesOf r entry (up_to (view_day r) facts) t.items) (sym c.in-Percent.is) is) c.tallies_on.ensures.value

pub returns-in-Due-clause-value : goal.returns-in-Due-clause-value
returns-in-Due-clause-value c =
    let entry = c.args.entry.now in
    let facts = facts_in c.args.store.now in
    let day = c.in-Due.day in
    IfOk-weaker c.tallies_due.result (λ t. AreTalliesDue entry day (up_to day facts) t.items)
    (λ t. AreTalliesOf c.args.request.now entry (up_to (view_day c.args.request.now) facts) t.items)
    (λ t is. subst (λ r. AreTalliesOf r entry (up_to (view_day r) facts) t.items) (sym c.in-Due.is) is) c.tallies_due.ensures.value

pub returns-in-Route-clause-value : goal.returns-in-Route-clause-value
returns-in-Route-clause-value c =
    let entry = c.args.entry.now in
    let facts = facts_in c.args.store.now in
    let day = c.in-Route.day in
    IfOk-weaker c.tallies_due-in-Route.result (λ t. AreTalliesDue entry day (up_to day facts) t.items)
    (λ t. AreTalliesOf c.args.request.now entry (up_to (view_day c.args.request.now) facts) t.items)
    (λ t is. subst (λ r. AreTalliesOf r entry (up_to (view_day r) facts) t.items) (sym c.in-Route.is) is) c.tallies_due-in-Route.ensures.value
