use Rattle.std.proofs.Common.{◌≡◌, ◌<◌, ◌+◌, ◌-◌, Option, Some, Result, Ok, Err, IfOk, length, take, slice_get, get_or, sym, ap, ◌∙◌, arith}
use Rattle.fact_store.specs.Coming.{stored}
use Rattle.office_views.specs.Headers.{batch_by, batches_by, facts_kept}
use Rattle.office_views.proofs.HeaderLemmas.{length-headers_of}
use Rattle.office_views.proofs.PlaceLemmas.{header_within, taken_at}
use Rattle.office_views.proofs.SoundLemmas.{adopted_is, count_is, stated_is}
use Rattle.office_views.proofs.views.Views.batch_at.Goals as goal

-- an element that is found, where the result of a copy is it
copied : {T E : Type 0} (r : Result T E) (x : T) (found : Option T) → found ≡ Some x → IfOk r (λ y. y ≡ x) → IfOk r (λ y. found ≡ Some y)
copied (Ok y) x found is same = is ∙ ap (λ z. Some z) (sym same)
copied (Err e) x found is same = tt

pub batch_of-requires-clause-held : goal.batch_of-requires-clause-held
batch_of-requires-clause-held g c =
    let inside = c.self.inside in
    let sound = c.self.invariant.0 in
    let at = c.args.position - 1 in
    let header = c.index.result.now in
    let long = ap length (adopted_is sound.0 (stored inside.store) inside.register inside.headers.items inside.adopted sound.1 c.args.self.now c.self.view_is)
    ∙ count_is sound.0 (stored inside.store) inside.register inside.headers.items inside.adopted sound.1 in
    let before : at < inside.adopted = omega (arith, c.requires.from_1, c.requires.within, long) in
    let same = c.index.ensures ∙ ap (λ hs. get_or hs at header) sound.1.headed in
    omega (
      arith,
      header_within 0 sound.0 at inside.adopted header before (omega (arith, before, sound.1.counted)),
      ap (λ h. h.first + h.count) same,
      stated_is sound.0 (stored inside.store) inside.register inside.headers.items inside.adopted sound.1,
    )

pub returns : goal.returns
returns g c =
    let inside = c.self.inside in
    let sound = c.self.invariant.0 in
    let at = c.args.position - 1 in
    let header = c.index.result.now in
    let kept = facts_kept (stored inside.store) in
    let batches = take inside.adopted (batches_by kept inside.headers.items) in
    let long = ap length (adopted_is sound.0 (stored inside.store) inside.register inside.headers.items inside.adopted sound.1 c.args.self.now c.self.view_is)
    ∙ count_is sound.0 (stored inside.store) inside.register inside.headers.items inside.adopted sound.1 in
    let before : at < inside.adopted = omega (arith, c.requires.from_1, c.requires.within, long) in
    let found : slice_get c.args.self.now.adopted at ≡ Some (batch_by kept header) =
    ap (λ bs. slice_get bs at) (ap (λ h. h.adopted) (sym c.self.view_is))
    ∙ taken_at (batch_by kept) inside.headers.items at inside.adopted header before
    (omega (arith, before, sound.1.counted, ap length sound.1.headed, length-headers_of 0 sound.0)) c.index.ensures in
    record { value = copied c.batch_of.result (batch_by kept header) (slice_get c.args.self.now.adopted at) found c.batch_of.ensures.value }
