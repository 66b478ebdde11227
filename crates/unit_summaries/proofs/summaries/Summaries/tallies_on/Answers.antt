use Rattle.std.proofs.Common.{◌≡◌, length, sym, ◌∙◌, subst}
use Rattle.std.proofs.lemmas.Result.{IfOk-weaker}
use Rattle.fact_store.specs.Kept.{facts_in}
use Rattle.history_laws.specs.DayLaws.{up_to}
use Rattle.ldar_law.specs.Units.{components_of, tallies_to}
use Rattle.unit_summaries.specs.declared.kept.DayTallies.{DayTallies}
use Rattle.unit_summaries.specs.Kept.{IsFound, IsKept}
use Rattle.unit_summaries.specs.Sound.{Are, IsRenewed, Sums}
use Rattle.unit_summaries.proofs.KeptLemmas.{all_kept}
use Rattle.unit_summaries.proofs.MemberLemmas.{found_tallies, new_kept}
use Rattle.unit_summaries.proofs.SoundLemmas.{with_kept}
use Rattle.unit_summaries.proofs.summaries.Summaries.tallies_on.Goals as goal

pub returns-in-Some-clause-value : goal.returns-in-Some-clause-value
returns-in-Some-clause-value c =
    let a = c.args in
    let facts = facts_in a.store.now in
    let arrived = a.store.now.arrived in
    let entry = a.entry.now in
    let inside = c.self.inside in
    let before : Sums =
    record { components = inside.components; units = inside.units; answered = inside.answered.items; kept = inside.kept.items } in
    let are = subst (Are facts arrived (length arrived)) (sym c.self.view_is) c.requires.sound in
    let renewed = subst (IsRenewed facts entry.unit) (sym c.self.view_is) c.requires.renewed in
    let tallies = c.in-Some.tallies.now in
    let found = subst (λ ds. IsFound entry.unit entry.startup a.day a.quarters ds tallies) c.deref.ensures.value c.in-Some.ensures.value in
    let is = found_tallies facts arrived (length arrived) before are c.requires.ordered c.requires.once entry.unit entry.startup a.day a.quarters tallies
    renewed found in
    IfOk-weaker c.from_slice.result (λ t. t.items ≡ tallies)
    (λ t. t.items ≡ tallies_to entry.startup a.day (components_of entry.unit (up_to a.day facts)) a.quarters) (λ t same. same ∙ is)
    c.from_slice.ensures.items

pub returns-in_err-keep-clause-sound : goal.returns-in_err-keep-clause-sound
returns-in_err-keep-clause-sound c =
    let a = c.args in
    let facts = facts_in a.store.now in
    let arrived = a.store.now.arrived in
    let entry = a.entry.now in
    let inside = c.self.inside in
    let before : Sums =
    record { components = inside.components; units = inside.units; answered = inside.answered.items; kept = inside.kept.items } in
    let are = subst (Are facts arrived (length arrived)) (sym c.self.view_is) c.requires.sound in
    let renewed = subst (IsRenewed facts entry.unit) (sym c.self.view_is) c.requires.renewed in
    let day : DayTallies =
    record { unit = entry.unit; startup = entry.startup; day = a.day; quarters = a.quarters; tallies = c.in_ok-copy.copy } in
    let this = new_kept facts arrived (length arrived) before are c.requires.ordered c.requires.once day renewed c.requires.startup c.requires.few
    (c.in_ok-copy.ensures.items ∙ c.deref-2.ensures.value ∙ c.in_ok-tallies.ensures.value) in
    with_kept facts arrived before are c.keep.new.kept.items
    (record {
      orderly = are.counted.orderly;
      kept = all_kept (IsKept facts inside.components inside.units) day inside.kept.items c.keep.new.kept.items c.keep.ensures.held are.counted.kept this;
    })

pub returns-clause-sound : goal.returns-clause-sound
returns-clause-sound c =
    let a = c.args in
    let facts = facts_in a.store.now in
    let arrived = a.store.now.arrived in
    let entry = a.entry.now in
    let inside = c.self.inside in
    let before : Sums =
    record { components = inside.components; units = inside.units; answered = inside.answered.items; kept = inside.kept.items } in
    let are = subst (Are facts arrived (length arrived)) (sym c.self.view_is) c.requires.sound in
    let renewed = subst (IsRenewed facts entry.unit) (sym c.self.view_is) c.requires.renewed in
    let day : DayTallies =
    record { unit = entry.unit; startup = entry.startup; day = a.day; quarters = a.quarters; tallies = c.in_ok-copy.copy } in
    let this = new_kept facts arrived (length arrived) before are c.requires.ordered c.requires.once day renewed c.requires.startup c.requires.few
    (c.in_ok-copy.ensures.items ∙ c.deref-2.ensures.value ∙ c.in_ok-tallies.ensures.value) in
    with_kept facts arrived before are c.keep.new.kept.items
    (record {
      orderly = are.counted.orderly;
      kept = all_kept (IsKept facts inside.components inside.units) day inside.kept.items c.keep.new.kept.items c.keep.ensures.held are.counted.kept this;
    })
