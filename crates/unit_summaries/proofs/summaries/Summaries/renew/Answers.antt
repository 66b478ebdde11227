use Rattle.std.proofs.Common.{◌+◌, ◌≤◌, length, sym, subst, arith}
use Rattle.fact_store.specs.Kept.{facts_in}
use Rattle.ldar_law.specs.Stirred.{stirred}
use Rattle.unit_summaries.specs.Cost.{AreTouched, members_cost, unit_cost}
use Rattle.unit_summaries.specs.Sound.{Are, Sums, news_of}
use Rattle.unit_summaries.specs.Says.{IsUnitSaid}
use Rattle.unit_summaries.proofs.CostLemmas.{unit_fits}
use Rattle.unit_summaries.proofs.KnownLemmas.{stops_are_by_day}
use Rattle.unit_summaries.proofs.SoundLemmas.{renewed_components, renewed_units, with_places}
use Rattle.unit_summaries.proofs.summaries.Summaries.renew.Goals as goal

pub returns-in_err-renew_unit-clause-counted : goal.returns-in_err-renew_unit-clause-counted
returns-in_err-renew_unit-clause-counted g c =
    let facts = facts_in c.args.store.now in
    let unit = c.args.unit in
    let news = news_of c.args.store.now.arrived c.args.self.now unit in
    let fits = subst (λ (s : Sums). unit_cost facts s.units unit + members_cost facts news unit ≤ stirred facts news unit) (sym c.self.view_is)
    (unit_fits facts news unit c.args.self.now.units (c.requires.sound.unread unit c.requires.entered)) in
    omega (arith, c.renew_unit.ensures.counted, fits)

pub renew_members-requires-clause-shown : goal.renew_members-requires-clause-shown
renew_members-requires-clause-shown g c =
    let facts = facts_in c.args.store.now in
    let arrived = c.args.store.now.arrived in
    let unit = c.args.unit in
    let inside = c.self.inside in
    let before : Sums =
    record { components = inside.components; units = inside.units; answered = inside.answered.items; kept = inside.kept.items } in
    let are = subst (Are facts arrived (length arrived)) (sym c.self.view_is) c.requires.sound in
    let with_unit = renewed_units facts arrived before are c.renew_unit.new.table c.renew_unit.new.kept.items c.renew_unit.ensures.value
    (c.renew_unit.ensures.kept inside.components are.counted) in
    record {
      fresh = c.in_ok-renew_unit.ensures.fresh;
      stops = λ row is. stops_are_by_day facts unit row (subst (IsUnitSaid facts unit) is (with_unit.lists unit c.in_ok-renew_unit.ensures.fresh))
          c.requires.ordered;
    }

pub renew_members-requires-clause-kept : goal.renew_members-requires-clause-kept
renew_members-requires-clause-kept g c =
    let facts = facts_in c.args.store.now in
    let arrived = c.args.store.now.arrived in
    let are = subst (Are facts arrived (length arrived)) (sym c.self.view_is) c.requires.sound in
    c.renew_unit.ensures.kept c.self.inside.components are.counted

pub returns-in_err-renew_unit-clause-sound : goal.returns-in_err-renew_unit-clause-sound
returns-in_err-renew_unit-clause-sound g c =
    let facts = facts_in c.args.store.now in
    let arrived = c.args.store.now.arrived in
    let inside = c.self.inside in
    let counts = c.make_counts.new.counts.items in
    let before : Sums =
    record { components = inside.components; units = inside.units; answered = inside.answered.items; kept = inside.kept.items } in
    let roomy : Sums = record { components = inside.components; units = inside.units; answered = counts; kept = inside.kept.items } in
    let are = subst (Are facts arrived (length arrived)) (sym c.self.view_is) c.requires.sound in
    let with_room = with_places facts arrived before are counts c.make_counts.ensures.same in
    renewed_units facts arrived roomy with_room c.renew_unit.new.table c.renew_unit.new.kept.items c.renew_unit.ensures.value
    (c.renew_unit.ensures.kept inside.components are.counted)

pub returns-clause-sound : goal.returns-clause-sound
returns-clause-sound g c =
    let facts = facts_in c.args.store.now in
    let arrived = c.args.store.now.arrived in
    let inside = c.self.inside in
    let counts = c.make_counts.new.counts.items in
    let before : Sums =
    record { components = inside.components; units = inside.units; answered = inside.answered.items; kept = inside.kept.items } in
    let roomy : Sums = record { components = inside.components; units = inside.units; answered = counts; kept = inside.kept.items } in
    let shown : Sums =
    record { components = inside.components; units = c.renew_unit.new.table; answered = counts; kept = c.renew_unit.new.kept.items } in
    let are = subst (Are facts arrived (length arrived)) (sym c.self.view_is) c.requires.sound in
    let with_room = with_places facts arrived before are counts c.make_counts.ensures.same in
    let with_unit = renewed_units facts arrived roomy with_room c.renew_unit.new.table c.renew_unit.new.kept.items c.renew_unit.ensures.value
    (c.renew_unit.ensures.kept inside.components are.counted) in
    renewed_components facts arrived shown with_unit c.renew_members.new.table c.renew_members.new.kept.items c.renew_members.ensures.value
    c.renew_members.ensures.kept

pub returns-clause-counted : goal.returns-clause-counted
returns-clause-counted g c =
    let facts = facts_in c.args.store.now in
    let unit = c.args.unit in
    let news = news_of c.args.store.now.arrived c.args.self.now unit in
    let fits = subst (λ (s : Sums). unit_cost facts s.units unit + members_cost facts news unit ≤ stirred facts news unit) (sym c.self.view_is)
    (unit_fits facts news unit c.args.self.now.units (c.requires.sound.unread unit c.requires.entered)) in
    let touch = subst (λ (s : Sums). AreTouched facts news unit s.components) (sym c.self.view_is) (λ n. c.requires.sound.stale unit n) in
    omega (arith, c.renew_members.ensures.counted news touch, c.renew_unit.ensures.counted, fits)
