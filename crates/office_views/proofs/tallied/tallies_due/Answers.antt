use Rattle.std.proofs.Common.{◌≡◌, ◌-◌, sym, ◌∙◌, ap}
use Rattle.std.proofs.lemmas.Result.{IfOk-weaker}
use Rattle.fact_store.specs.Kept.{facts_in}
use Rattle.history_laws.specs.DayLaws.{up_to}
use Rattle.history_laws.proofs.RangeLemmas.{members_fit}
use Rattle.ldar_law.specs.Equipment.{elections_of}
use Rattle.ldar_law.specs.Skips.{skipped_to}
use Rattle.ldar_law.specs.Units as law
use Rattle.office_views.specs.Asked.{AreTalliesDue}
use Rattle.office_views.proofs.SkipLemmas.{counts_not_asked, none_elected}
use Rattle.office_views.proofs.tallied.tallies_due.Goals as goal

pub tallies_on-requires-clause-few : goal.tallies_on-requires-clause-few
tallies_on-requires-clause-few c =
    members_fit (facts_in c.args.store.now) c.args.entry.now.unit c.requires.ready.kept.in_range c.requires.ready.kept.once

pub returns-then-not-is_elected-clause-value : goal.returns-then-not-is_elected-clause-value
returns-then-not-is_elected-clause-value c =
    let entry = c.args.entry.now in
    let day = c.args.day in
    let facts = up_to day (facts_in c.args.store.now) in
    let elections = elections_of entry.unit facts in
    let quarter = law.quarter_at entry.startup day in
    counts_not_asked c.new.result.items (law.tallies_to entry.startup day (law.components_of entry.unit facts) (quarter - 1)) elections entry.startup quarter
    (none_elected elections (sym c.is_elected.ensures.value ∙ c.if-not-is_elected.true))

pub returns-clause-value : goal.returns-clause-value
returns-clause-value c =
    let entry = c.args.entry.now in
    let day = c.args.day in
    let facts = up_to day (facts_in c.args.store.now) in
    let elections = elections_of entry.unit facts in
    let quarter = law.quarter_at entry.startup day in
    let components = law.components_of entry.unit facts in
    let before = c.saturating_sub-before.result in
    IfOk-weaker c.tallies_on.result (λ tallies. tallies.items ≡ law.tallies_to entry.startup day components before)
    (λ tallies. AreTalliesDue entry day facts tallies.items)
    (λ tallies is.
    ap (λ ts. skipped_to ts elections entry.startup quarter)
    (is ∙ ap (law.tallies_to entry.startup day components) (c.saturating_sub-before.ensures ∙ ap (λ q. q - 1) c.quarter_at.ensures.value)))
    c.tallies_on.ensures.value
