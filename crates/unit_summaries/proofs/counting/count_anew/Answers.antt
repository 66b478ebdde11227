use Rattle.std.proofs.Common.{◌≡◌, ◌≤◌, length, sym, ap, ◌∙◌, subst}
use Rattle.std.proofs.lemmas.Result.{IfOk-weaker}
use Rattle.fact_store.specs.Kept.{facts_in}
use Rattle.history_laws.specs.DayLaws.{up_to}
use Rattle.ldar_law.specs.declared.numbers.TheConstants.{MOST_COMPONENTS}
use Rattle.ldar_law.specs.Units.{components_of, tallies_to}
use Rattle.unit_summaries.specs.Known.{AreInOrder, all_in_law}
use Rattle.unit_summaries.proofs.AskedLemmas.{unit_said}
use Rattle.unit_summaries.proofs.UnitLemmas.{few_known, front_once, known_few, known_in_law}
use Rattle.unit_summaries.proofs.counting.count_anew.Goals as goal

pub stops_by-stops-requires-clause-said : goal.stops_by-stops-requires-clause-said
stops_by-stops-requires-clause-said c =
    unit_said (facts_in c.args.store.now) _ _ c.args.entry.now.unit c.args.summaries.now c.requires.sound c.requires.renewed

pub tallies_to-requires-clause-few : goal.tallies_to-requires-clause-few
tallies_to-requires-clause-few c =
    let facts = facts_in c.args.store.now in
    let unit = c.args.entry.now.unit in
    let day = c.args.day in
    subst (λ cs. length cs ≤ MOST_COMPONENTS) (sym c.deref.ensures.value)
    (known_few unit (up_to day facts) c.in_ok-components.components.items c.in_ok-components.ensures.value
    (few_known day unit facts c.requires.ordered c.requires.once c.requires.few))

pub tallies_to-requires-clause-ordered : goal.tallies_to-requires-clause-ordered
tallies_to-requires-clause-ordered c = subst AreInOrder (sym c.deref.ensures.value) c.in_ok-components.ensures.ordered

pub returns : goal.returns
returns c =
    let facts = facts_in c.args.store.now in
    let entry = c.args.entry.now in
    let day = c.args.day in
    let stops = c.stops_by-stops.result.now in
    record {
      value = IfOk-weaker c.tallies_to.result (λ t. t.items ≡ tallies_to entry.startup day (all_in_law stops c.deref.result.now) c.args.quarters)
          (λ t. t.items ≡ tallies_to entry.startup day (components_of entry.unit (up_to day facts)) c.args.quarters)
          (λ t is.
          is
          ∙ ap (λ cs. tallies_to entry.startup day cs c.args.quarters)
          (ap (all_in_law stops) c.deref.ensures.value
          ∙ known_in_law entry.unit (up_to day facts) c.in_ok-components.components.items c.in_ok-components.ensures.value stops
          c.stops_by-stops.ensures.value (front_once day facts c.requires.once)))
          c.tallies_to.ensures.value;
    }
