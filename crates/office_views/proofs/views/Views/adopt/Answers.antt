use Rattle.std.proofs.Common.{◌≡◌, ◌+◌, Some, None, [], ◌∷◌, ◌++◌, drop, slice_get, take, sym, ap, ◌∙◌, subst, arith}
use Rattle.std.specs.List.{flat_map}
use Rattle.fact_kinds.specs.Facts.{entries_of}
use Rattle.fact_kinds.specs.Identity.{identity_of, position_of}
use Rattle.fact_store.specs.Coming.{stored}
use Rattle.ldar_law.specs.declared.verdict.Verdict.TheVariants.{Pass}
use Rattle.ldar_law.specs.Verdicts.{verdict_on}
use Rattle.unit_summaries.specs.Sound.{Are}
use Rattle.office_views.proofs.AdoptLemmas.{store_room, register_room, own_keys, enters, adopted, adopted_viewed, adopted_sound, all_differ, stored_count}
use Rattle.office_views.proofs.ReadsLemmas.{reads_within}
use Rattle.office_views.proofs.SoundLemmas.{adopted_is, facts_are_of, noted_is, spare_is, viewed}
use Rattle.office_views.proofs.views.Views.adopt.Goals as goal

pub put_facts-requires-clause-roomy : goal.put_facts-requires-clause-roomy
put_facts-requires-clause-roomy g c =
    let inside = c.self.inside in
    let sound = c.self.invariant.0 in
    let spare = spare_is sound.0 (stored inside.store) inside.register inside.headers.items inside.adopted sound.1 c.args.self.now c.self.view_is in
    let next = subst (λ bs. slice_get bs 0 ≡ Some c.args.batch.now) spare c.requires.roomy in
    store_room sound.0 (stored inside.store) inside.register inside.headers.items inside.adopted sound.1 c.args.batch.now next

pub put_facts-requires-clause-own_keys : goal.put_facts-requires-clause-own_keys
put_facts-requires-clause-own_keys g c =
    let inside = c.self.inside in
    let sound = c.self.invariant.0 in
    let spare = spare_is sound.0 (stored inside.store) inside.register inside.headers.items inside.adopted sound.1 c.args.self.now c.self.view_is in
    let next = subst (λ bs. slice_get bs 0 ≡ Some c.args.batch.now) spare c.requires.roomy in
    let held = adopted_is sound.0 (stored inside.store) inside.register inside.headers.items inside.adopted sound.1 c.args.self.now c.self.view_is in
    let passes = subst (λ bs. verdict_on bs c.args.batch.now ≡ Pass) held c.requires.passes in
    let new = subst (λ bs. position_of (identity_of c.args.batch.now) bs ≡ None) held c.requires.new_identity in
    own_keys sound.0 (stored inside.store) inside.register inside.headers.items inside.adopted sound.1 c.args.batch.now next passes new

pub put_entries-requires-clause-roomy : goal.put_entries-requires-clause-roomy
put_entries-requires-clause-roomy g c =
    let inside = c.self.inside in
    let sound = c.self.invariant.0 in
    let spare = spare_is sound.0 (stored inside.store) inside.register inside.headers.items inside.adopted sound.1 c.args.self.now c.self.view_is in
    let next = subst (λ bs. slice_get bs 0 ≡ Some c.args.batch.now) spare c.requires.roomy in
    register_room sound.0 (stored inside.store) inside.register inside.headers.items inside.adopted sound.1 c.args.batch.now next

pub put_entries-requires-clause-enters : goal.put_entries-requires-clause-enters
put_entries-requires-clause-enters g c =
    let inside = c.self.inside in
    let sound = c.self.invariant.0 in
    let spare = spare_is sound.0 (stored inside.store) inside.register inside.headers.items inside.adopted sound.1 c.args.self.now c.self.view_is in
    let next = subst (λ bs. slice_get bs 0 ≡ Some c.args.batch.now) spare c.requires.roomy in
    let held = adopted_is sound.0 (stored inside.store) inside.register inside.headers.items inside.adopted sound.1 c.args.self.now c.self.view_is in
    let passes = subst (λ bs. verdict_on bs c.args.batch.now ≡ Pass) held c.requires.passes in
    let new = subst (λ bs. position_of (identity_of c.args.batch.now) bs ≡ None) held c.requires.new_identity in
    enters sound.0 (stored inside.store) inside.register inside.headers.items inside.adopted sound.1 c.args.batch.now next passes new

pub invariant_of-self : goal.invariant_of-self
invariant_of-self g c =
    let inside = c.self.inside in
    let sound = c.self.invariant.0 in
    let spare = spare_is sound.0 (stored inside.store) inside.register inside.headers.items inside.adopted sound.1 c.args.self.now c.self.view_is in
    let next = subst (λ bs. slice_get bs 0 ≡ Some c.args.batch.now) spare c.requires.roomy in
    let held = adopted_is sound.0 (stored inside.store) inside.register inside.headers.items inside.adopted sound.1 c.args.self.now c.self.view_is in
    let passes = subst (λ bs. verdict_on bs c.args.batch.now ≡ Pass) held c.requires.passes in
    let new = subst (λ bs. position_of (identity_of c.args.batch.now) bs ≡ None) held c.requires.new_identity in (
      (
        sound.0,
        adopted sound.0 (stored inside.store) inside.register inside.headers.items inside.adopted sound.1 c.args.batch.now next passes new
            (stored c.put_facts.new.store) c.put_entries.new.register c.put_facts.ensures.value c.put_entries.ensures.value c.put_facts.ensures.in_range,
      ),
      stored_count (stored inside.store) (stored c.put_facts.new.store) c.args.batch.now c.put_facts.ensures.value inside.facts c.self.invariant.1 _
          c.as_slice.ensures.value,
      adopted_sound sound.0 (stored inside.store) inside.register inside.headers.items inside.adopted sound.1 c.args.batch.now next passes new
          c.put_facts.new.store inside.store.listed c.touch.new.self c.put_facts.ensures.value c.put_facts.ensures.listed
          (c.touch.ensures.sound (take inside.adopted sound.0) sound.1.arrived
          (all_differ sound.0 (stored inside.store) inside.register inside.headers.items inside.adopted sound.1 c.args.batch.now next passes new)
          (subst (λ es. Are es inside.store.arrived inside.store.listed inside.summaries)
          (facts_are_of sound.0 (stored inside.store) inside.register inside.headers.items inside.adopted sound.1) c.self.invariant.2)),
    )

pub returns : goal.returns
returns g c =
    let inside = c.self.inside in
    let sound = c.self.invariant.0 in
    let spare = spare_is sound.0 (stored inside.store) inside.register inside.headers.items inside.adopted sound.1 c.args.self.now c.self.view_is in
    let next = subst (λ bs. slice_get bs 0 ≡ Some c.args.batch.now) spare c.requires.roomy in
    let held = adopted_is sound.0 (stored inside.store) inside.register inside.headers.items inside.adopted sound.1 c.args.self.now c.self.view_is in
    let passes = subst (λ bs. verdict_on bs c.args.batch.now ≡ Pass) held c.requires.passes in
    let new = subst (λ bs. position_of (identity_of c.args.batch.now) bs ≡ None) held c.requires.new_identity in
    let now = adopted sound.0 (stored inside.store) inside.register inside.headers.items inside.adopted sound.1 c.args.batch.now next passes new
    (stored c.put_facts.new.store) c.put_entries.new.register c.put_facts.ensures.value c.put_entries.ensures.value c.put_facts.ensures.in_range in
    record {
      value = viewed sound.0 (stored c.put_facts.new.store) c.put_entries.new.register inside.headers.items (inside.adopted + 1) now
          c.touch.new.self.answered
          ∙ adopted_viewed sound.0 (stored inside.store) inside.register inside.headers.items inside.adopted sound.1 c.args.batch.now next
          c.touch.new.self.answered
          ∙ ap (λ bs. record { adopted = bs ++ c.args.batch.now ∷ []; spare = drop 1 (drop inside.adopted sound.0); answered = c.touch.new.self.answered })
          (sym held)
          ∙ ap (λ bs. record { adopted = c.args.self.now.adopted ++ c.args.batch.now ∷ []; spare = drop 1 bs; answered = c.touch.new.self.answered })
          (sym spare)
          ∙ ap (λ ns. record { adopted = c.args.self.now.adopted ++ c.args.batch.now ∷ []; spare = drop 1 c.args.self.now.spare; answered = ns })
          (c.touch.ensures.answered
          ∙ sym (noted_is sound.0 (stored inside.store) inside.register inside.headers.items inside.adopted sound.1 c.args.self.now c.self.view_is));
      counted = omega (
        arith,
        c.touch.ensures.counted,
        reads_within inside.store.arrived c.args.self.now.adopted c.args.batch.now
            (sound.1.arrived ∙ ap (flat_map entries_of) (sym held)) c.args.batch.now.facts,
      );
    }
