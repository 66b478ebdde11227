use Rattle.std.proofs.Common.{◌≡◌, ◌+◌, ◌-◌, Some, None, length, take, slice_get, get_or, sym, ap, ◌∙◌, arith}
use Rattle.fact_store.specs.Coming.{stored}
use Rattle.std.proofs.lemmas.Bool.Decides.{nat_tests}
use Rattle.office_views.specs.Headers.{batch_by, batches_by, facts_kept}
use Rattle.office_views.proofs.HeaderLemmas.{length-headers_of}
use Rattle.office_views.proofs.PlaceLemmas.{header_within, taken_at, none_at}
use Rattle.office_views.proofs.SoundLemmas.{stated_is}
use Rattle.office_views.proofs.views.Views.is_kept_at.Goals as goal

pub index-requires : goal.index-requires
index-requires g c =
    let inside = c.self.inside in
    let sound = c.self.invariant.0 in
    omega (arith, c.if-at-self.true, sound.1.counted, ap length sound.1.headed, length-headers_of 0 sound.0, inside.headers.ok.0)

pub is_batch_of-requires-clause-held : goal.is_batch_of-requires-clause-held
is_batch_of-requires-clause-held g c =
    let inside = c.self.inside in
    let sound = c.self.invariant.0 in
    let at = c.saturating_sub-at.result in
    let header = c.index.result.now in
    let same = c.index.ensures ∙ ap (λ hs. get_or hs at header) sound.1.headed in
    omega (
      arith,
      header_within 0 sound.0 at inside.adopted header c.if-at-self.true (omega (arith, c.if-at-self.true, sound.1.counted)),
      ap (λ h. h.first + h.count) same,
      stated_is sound.0 (stored inside.store) inside.register inside.headers.items inside.adopted sound.1,
    )

pub returns-then-at-self : goal.returns-then-at-self
returns-then-at-self g c =
    let inside = c.self.inside in
    let sound = c.self.invariant.0 in
    let at = c.saturating_sub-at.result in
    let header = c.index.result.now in
    let kept = facts_kept (stored inside.store) in
    let batches = take inside.adopted (batches_by kept inside.headers.items) in
    let held = ap (λ h. h.adopted) (sym c.self.view_is) in
    let found : slice_get c.args.self.now.adopted (c.args.position - 1) ≡ Some (batch_by kept header) =
    ap (λ bs. slice_get bs (c.args.position - 1)) held ∙ ap (λ k. slice_get batches k) (sym c.saturating_sub-at.ensures)
    ∙ taken_at (batch_by kept) inside.headers.items at inside.adopted header c.if-at-self.true
    (omega (arith, c.if-at-self.true, sound.1.counted, ap length sound.1.headed, length-headers_of 0 sound.0)) c.index.ensures in
    let told = c.is_batch_of.ensures.value in
    record {
      value = (
        λ same. found ∙ ap (λ b. Some b) (told.0 same),
        λ stands. told.1 (let both : Some (batch_by kept header) ≡ Some c.args.batch.now = sym found ∙ stands in cc),
      );
    }

pub returns-else-at-self : goal.returns-else-at-self
returns-else-at-self g c =
    let inside = c.self.inside in
    let at = c.saturating_sub-at.result in
    let held = ap (λ h. h.adopted) (sym c.self.view_is) in
    let batches = batches_by (facts_kept (stored inside.store)) inside.headers.items in
    let none : slice_get c.args.self.now.adopted (c.args.position - 1) ≡ None =
    ap (λ bs. slice_get bs (c.args.position - 1)) held ∙ ap (λ k. slice_get (take inside.adopted batches) k) (sym c.saturating_sub-at.ensures)
    ∙ none_at batches at inside.adopted c.if-at-self.false in
    record {
      value = (
        λ told. absurd (grind (arith, nat_tests)),
        λ stands. absurd (let both : None ≡ Some c.args.batch.now = sym none ∙ stands in cc),
      );
    }
