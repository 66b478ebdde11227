use Rattle.std.proofs.Common.{◌≡◌, Some, [], ◌∷◌, ◌++◌, length, drop, slice_get, refl, sym, ap, ◌∙◌, subst, arith}
use Rattle.std.proofs.lemmas.Option.{slice_get_read}
use Rattle.ldar_law.specs.Slices.{is_registered}
use Rattle.fact_store.specs.Kept.{is_held}
use Rattle.office_views.proofs.TakingLemmas.{entry_new_key, entry_few, entry_first, entry_room, entered_more, entered_same, entered_all}
use Rattle.office_views.proofs.intake.put_entries.Goals.{then-is_registered, else-is_registered}
use Rattle.office_views.proofs.intake.put_entries.Goals as goal

pub insert-requires-clause-roomy : goal.insert-requires-clause-roomy
insert-requires-clause-roomy c =
    let item = c.index-facts-index.result in
    let i = c.loop-index.index in
    let read = slice_get_read c.as_slice-facts.result.now (length c.as_slice-facts.result.now) i item refl c.loop-index-test.true c.index-facts-index.is in
    let here = subst (λ fs. slice_get fs i ≡ Some item) c.as_slice-facts.ensures.value read in
    let registered = sym (ap (λ s. is_registered s.body) c.fact.view_is) ∙ sym c.is_registered.ensures.value ∙ c.if-is_registered.true in
    entry_room c.args.register.now c.loop-index.register c.args.batch.now i c.loop-index.invariant item here c.requires.roomy registered
    ∙ ap (λ s. Some s) (sym c.fact.view_is)

pub insert-requires-clause-new_key : goal.insert-requires-clause-new_key
insert-requires-clause-new_key c =
    let item = c.index-facts-index.result in
    let i = c.loop-index.index in
    let read = slice_get_read c.as_slice-facts.result.now (length c.as_slice-facts.result.now) i item refl c.loop-index-test.true c.index-facts-index.is in
    let here = subst (λ fs. slice_get fs i ≡ Some item) c.as_slice-facts.ensures.value read in
    ap (λ key. is_held key c.loop-index.register.arrived) c.key_at.ensures.value
    ∙ entry_new_key c.args.register.now c.loop-index.register c.args.batch.now i c.loop-index.invariant item here c.requires.enters

pub insert-requires-clause-few : goal.insert-requires-clause-few
insert-requires-clause-few c =
    let item = c.index-facts-index.result in
    let i = c.loop-index.index in
    let read = slice_get_read c.as_slice-facts.result.now (length c.as_slice-facts.result.now) i item refl c.loop-index-test.true c.index-facts-index.is in
    let here = subst (λ fs. slice_get fs i ≡ Some item) c.as_slice-facts.ensures.value read in
    entry_few c.args.register.now c.loop-index.register c.args.batch.now i c.loop-index.invariant item here c.requires.enters

pub insert-requires-clause-first : goal.insert-requires-clause-first
insert-requires-clause-first c =
    let item = c.index-facts-index.result in
    let i = c.loop-index.index in
    let read = slice_get_read c.as_slice-facts.result.now (length c.as_slice-facts.result.now) i item refl c.loop-index-test.true c.index-facts-index.is in
    let here = subst (λ fs. slice_get fs i ≡ Some item) c.as_slice-facts.ensures.value read in
    entry_first c.args.register.now c.loop-index.register c.args.batch.now i c.loop-index.invariant item here c.requires.enters c.fact.inside.body
    (ap (λ s. s.body) c.fact.view_is)

pub loop-index-preserved : goal.loop-index-preserved
loop-index-preserved c =
    let item = c.index-facts-index.result in
    let i = c.loop-index.index in
    let read = slice_get_read c.as_slice-facts.result.now (length c.as_slice-facts.result.now) i item refl c.loop-index-test.true c.index-facts-index.is in
    let here = subst (λ fs. slice_get fs i ≡ Some item) c.as_slice-facts.ensures.value read in
    let tested = sym (ap (λ s. is_registered s.body) c.fact.view_is) ∙ sym c.is_registered.ensures.value in
    elim c.if-is_registered.branch [
      | then-is_registered w ↦
          w.register-is ∙ w.insert.ensures.value
          ∙ ap (λ s. record { arrived = c.loop-index.register.arrived ++ (w.key_at.result, s) ∷ []; spare = drop 1 c.loop-index.register.spare }) c.fact.view_is
          ∙ entered_more c.args.register.now c.loop-index.register c.args.batch.now i c.loop-index.invariant item here (tested ∙ w.if-is_registered.true)
          w.key_at.result w.key_at.ensures.value
      | else-is_registered w ↦
          w.register-is
          ∙ entered_same c.args.register.now c.loop-index.register c.args.batch.now i c.loop-index.invariant item here (tested ∙ w.if-is_registered.false)
    ]

pub returns : goal.returns
returns c =
    let all : c.loop-index.index ≡ length c.args.batch.now.facts =
    omega (arith, ap length c.as_slice-facts.ensures.value, c.loop-index-test.false, c.loop-index.auto.index-end) in
    record { value = c.loop-index.invariant ∙ entered_all c.args.register.now c.args.batch.now c.loop-index.index all }
