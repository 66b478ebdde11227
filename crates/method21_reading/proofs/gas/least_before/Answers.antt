use Rattle.std.proofs.Common.{rules, ◌≡◌, ◌-◌, ◌<◌, ◌≤◌, false, nat_eq, length, get_or, sym, ap, ◌∙◌, arith}
use Rattle.std.proofs.lemmas.List.{get_or_default}
use Rattle.fact_kinds.specs.Facts.{Entry}
use Rattle.ldar_law.proofs.TestLemmas.{both}
use Rattle.method21_reading.specs.Gases.{calibrates_on, calibrates_within_on}
use Rattle.method21_reading.proofs.FitnessLemmas.{within_calibrates}
use Rattle.method21_reading.proofs.FrontLemmas.{same_within}
use Rattle.method21_reading.proofs.GasLemmas.{none_in_front, none_of_day, least_of_day, earlier_than}
use Rattle.method21_reading.proofs.gas.least_before.Goals as goal

pub returns-then-place-eq0-clause-any : goal.returns-then-place-eq0-clause-any
returns-then-place-eq0-clause-any c =
    let a = c.args in
    let place = c.count_to_last-place in
    let within : a.count ≤ length a.facts.now = omega (arith, c.requires.within, c.requires.sound.within) in
    sym (none_in_front a.facts.now a.count place.result a.instrument a.day place.ensures.bound within place.ensures.none
    (calibrates_on a.instrument a.day) (λ e t. (both t).0) c.if-place-eq0.true)

pub returns-then-place-eq0-clause-least : goal.returns-then-place-eq0-clause-least
returns-then-place-eq0-clause-least c most =
    let a = c.args in
    let place = c.count_to_last-place in
    let within : a.count ≤ length a.facts.now = omega (arith, c.requires.within, c.requires.sound.within) in
    sym (none_in_front a.facts.now a.count place.result a.instrument a.day place.ensures.bound within place.ensures.none
    (calibrates_within_on a.instrument most a.day) (λ e t. within_calibrates a.instrument most e.1.body (both t).0) c.if-place-eq0.true)

pub returns-then-ne-clause-any : goal.returns-then-ne-clause-any
returns-then-ne-clause-any c =
    let a = c.args in
    let place = c.count_to_last-place in
    let e = c.index-facts-place.result in
    let within : a.count ≤ length a.facts.now = omega (arith, c.requires.within, c.requires.sound.within) in
    let some : 0 < place.result = search rules in
    let differ : nat_eq e.0.day a.day ≡ false = search rules in
    let last : place.result - 1 < length a.facts.now = omega (arith, some, within, place.ensures.bound) in
    let earlier : (d : Entry) → (get_or a.facts.now (place.result - 1) d).0.day < a.day =
    λ d. earlier_than _ a.day (c.requires.up_to (place.result - 1) d (omega arith) (omega (arith, some, place.ensures.bound)))
    (same_within (λ x. nat_eq x.0.day a.day ≡ false) a.facts.now (place.result - 1) e d c.index-facts-place.is last differ) in
    sym (none_of_day a.facts.now a.count place.result a.instrument a.day place.ensures.bound within place.ensures.none
    (calibrates_on a.instrument a.day) (λ e t. (both t).0) (λ e t. (both t).1) c.requires.ordered some earlier)

pub returns-then-ne-clause-least : goal.returns-then-ne-clause-least
returns-then-ne-clause-least c most =
    let a = c.args in
    let place = c.count_to_last-place in
    let e = c.index-facts-place.result in
    let within : a.count ≤ length a.facts.now = omega (arith, c.requires.within, c.requires.sound.within) in
    let some : 0 < place.result = search rules in
    let differ : nat_eq e.0.day a.day ≡ false = search rules in
    let last : place.result - 1 < length a.facts.now = omega (arith, some, within, place.ensures.bound) in
    let earlier : (d : Entry) → (get_or a.facts.now (place.result - 1) d).0.day < a.day =
    λ d. earlier_than _ a.day (c.requires.up_to (place.result - 1) d (omega arith) (omega (arith, some, place.ensures.bound)))
    (same_within (λ x. nat_eq x.0.day a.day ≡ false) a.facts.now (place.result - 1) e d c.index-facts-place.is last differ) in
    sym (none_of_day a.facts.now a.count place.result a.instrument a.day place.ensures.bound within place.ensures.none
    (calibrates_within_on a.instrument most a.day) (λ e t. within_calibrates a.instrument most e.1.body (both t).0) (λ e t. (both t).1)
    c.requires.ordered some earlier)

pub returns-clause-least : goal.returns-clause-least
returns-clause-least c most =
    let a = c.args in
    let place = c.count_to_last-place in
    let e = c.index-facts-place.result in
    let within : a.count ≤ length a.facts.now = omega (arith, c.requires.within, c.requires.sound.within) in
    let some : 0 < place.result = search rules in
    let same : e.0.day ≡ a.day = search rules in
    let known : place.result ≤ length a.least.now = omega (arith, c.requires.within, place.ensures.bound) in
    least_of_day a.facts.now a.count place.result a.instrument a.day place.ensures.bound within place.ensures.none e some
    (place.ensures.last (place.result - 1) e (omega arith) (omega (arith, some))) (ap (λ x. x.0.day) (sym c.index-facts-place.is) ∙ same)
    a.least.now (get_or a.least.now (place.result - 1) 0) most c.requires.sound known
    (get_or_default a.least.now (place.result - 1) 0 _ (omega (arith, some, known)))
