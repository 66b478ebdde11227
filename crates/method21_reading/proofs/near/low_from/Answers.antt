use Rattle.std.proofs.Common.{rules, ◌≡◌, ◌-◌, ◌<◌, true, nat_lt, length, arith}
use Rattle.std.proofs.lemmas.Bool.{lt-ltb}
use Rattle.method21_reading.proofs.FrontLemmas.{same_within}
use Rattle.method21_reading.proofs.NearLemmas.{before_in_front}
use Rattle.method21_reading.proofs.near.low_from.Goals as goal

pub returns-else-le-clause-before : goal.returns-else-le-clause-before
returns-else-le-clause-before c k d above below =
    let facts = c.args.facts.now in
    let day = c.args.day in
    let last = c.loop-low.low - 1 in
    let e = c.index-facts-low.result in
    let within : last < length facts = omega (arith, c.loop-low.invariant, c.requires.within, below) in
    let under : e.0.day < day = search rules in
    before_in_front day facts c.requires.ordered k last d (omega (arith, below)) within
    (same_within (λ x. nat_lt x.0.day day ≡ true) facts last e d c.index-facts-low.is within (lt-ltb e.0.day day under))
