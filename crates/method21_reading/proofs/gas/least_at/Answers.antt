use Rattle.std.proofs.Common.{rules, ◌≡◌, ◌≤◌, true, nat_le, arith}
use Rattle.std.proofs.lemmas.Bool.{le-leb}
use Rattle.method21_reading.proofs.FrontLemmas.{same_within}
use Rattle.method21_reading.proofs.NearLemmas.{up_to_in_front}
use Rattle.method21_reading.proofs.gas.least_at.Goals as goal

pub least_before-other-requires-clause-up_to : goal.least_before-other-requires-clause-up_to
least_before-other-requires-clause-up_to c k d low below =
    let a = c.args in
    let e = c.index-facts-at.result in
    let day = c.e.inside.0.0.day in
    let same : e.0.day ≤ day = search rules in
    up_to_in_front day a.facts.now c.requires.ordered k a.at d (omega (arith, below)) c.requires.within
    (same_within (λ x. nat_le x.0.day day ≡ true) a.facts.now a.at e d c.index-facts-at.is c.requires.within (le-leb e.0.day day same))
