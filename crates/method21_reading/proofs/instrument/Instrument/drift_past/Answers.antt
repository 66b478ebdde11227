use Rattle.std.proofs.Common.{◌≡◌, ℕ, false, List, length, get_or, ap, subst, arith}
use Rattle.std.specs.List.{AllWithin}
use Rattle.std.proofs.lemmas.List.{get_or_default}
use Rattle.fact_kinds.specs.Facts.{Entry}
use Rattle.method21_reading.specs.Readings.{is_past_after, IsFirstPast}
use Rattle.method21_reading.proofs.VoidLemmas.{none_to_place, first_at}
use Rattle.method21_reading.proofs.instrument.Instrument.drift_past.Goals as goal

pub returns-then-place-drifts-clause-first : goal.returns-then-place-drifts-clause-first
returns-then-place-drifts-clause-first c =
    let a = c.args in
    let facts = c.drifts-drifts.result.now in
    let from = c.count_up_to-from in
    let place = c.first_past-place in
    let short = c.if-place-drifts.true in
    let e = c.index-drifts-place.result in
    let drift = (get_or facts place.result e).0 in
    let is : (d : Entry) → (get_or facts place.result d).0 ≡ drift = λ d. ap (λ x. x.0) (get_or_default facts place.result d e short) in
    subst (λ es. IsFirstPast es a.key.now a.instrument a.limit a.ppm drift) c.drifts-drifts.ensures.value
    (first_at facts a.key.now a.instrument a.limit a.ppm from.result place.result place.ensures.bound.0 place.ensures.bound.1
    from.ensures.partitioned place.ensures.none drift short is (place.ensures.past short))

pub returns-clause-none : goal.returns-clause-none
returns-clause-none c none =
    let a = c.args in
    let facts = c.drifts-drifts.result.now in
    let from = c.count_up_to-from in
    let place = c.first_past-place in
    let past : ℕ → List Entry → Type 0 =
    λ n es. AllWithin (λ e. is_past_after a.key.now a.instrument a.limit a.ppm e ≡ false) es 0 n in
    let all : place.result ≡ length facts = omega (arith, place.ensures.bound, c.if-place-drifts.false) in
    subst (λ es. past (length es) es) c.drifts-drifts.ensures.value
    (subst (λ n. past n facts) all
    (none_to_place facts a.key.now a.instrument a.limit a.ppm from.result place.result place.ensures.bound.0 place.ensures.bound.1
    from.ensures.partitioned place.ensures.none))
