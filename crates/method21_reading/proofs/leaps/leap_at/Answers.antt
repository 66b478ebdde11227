use Rattle.std.proofs.Common.{◌≡◌, ◌+◌, ◌*◌, ◌<◌, true, length, get_or, sym, ap, ◌∙◌, subst}
use Rattle.std.specs.List.{AllWithin}
use Rattle.std.proofs.lemmas.List.{get_or_default}
use Rattle.fact_kinds.specs.declared.body.FactBody.TheVariants.{Drift}
use Rattle.fact_kinds.specs.Facts.{Entry}
use Rattle.ldar_law.specs.Fitness.{sum_of, is_drift_past}
use Rattle.method21_reading.specs.Leaps.{NonePast}
use Rattle.method21_reading.proofs.LeapLemmas.{drift_in, leaps_further}
use Rattle.method21_reading.proofs.leaps.leap_at.Goals as goal

pub returns-in-Some : goal.returns-in-Some
returns-in-Some c =
    let a = c.args in
    let facts = a.facts.now in
    let e = c.index-facts-at.result in
    let next = c.first_past-next in
    let jump = c.jump_past-jump in
    let of = c.in-Some.instrument in
    let drift = drift_in (get_or facts a.at e).1.body of c.in-Some.known c.in-Some.sum (sym c.failed_in.ensures.value ∙ c.in-Some.is) in
    let value = drift.0 in
    let readings = drift.1 in
    let is : (d : Entry) → (get_or facts a.at d).1.body ≡ Drift of value readings =
    λ d. ap (λ x. x.1.body) (get_or_default facts a.at d e c.requires.within) ∙ drift.2 in
    let none : NonePast of (3 * value) (sum_of readings) facts (a.at + 1) next.result =
    subst (λ n. NonePast of (3 * value) n facts (a.at + 1) next.result) drift.5
    (subst (λ n. NonePast of n c.in-Some.sum facts (a.at + 1) next.result) drift.4 next.ensures.none) in
    let past : next.result < length facts → AllWithin (λ x. is_drift_past of (3 * value) (sum_of readings) x.1.body ≡ true) facts next.result (next.result + 1) =
    λ short.
    subst (λ n. AllWithin (λ x. is_drift_past of (3 * value) n x.1.body ≡ true) facts next.result (next.result + 1)) drift.5
    (subst (λ n. AllWithin (λ x. is_drift_past of n c.in-Some.sum x.1.body ≡ true) facts next.result (next.result + 1)) drift.4
    (next.ensures.past short)) in
    record {
      value = leaps_further facts a.at of value readings next.result jump.result c.saturating_add-depth.result is drift.3 next.ensures.bound.0
          next.ensures.bound.1 jump.ensures.bound.0 jump.ensures.bound.1 none past jump.ensures.leads;
    }
