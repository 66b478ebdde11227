use Rattle.std.proofs.Common.{rules, ◌≡◌, ◌<◌, false, nat_le, length}
use Rattle.std.proofs.lemmas.Bool.{lt-leb}
use Rattle.method21_reading.proofs.FrontLemmas.{same_within}
use Rattle.method21_reading.proofs.NearLemmas.{later_behind}
use Rattle.method21_reading.proofs.near.high_from.Goals as goal

pub returns-else-le-clause-behind : goal.returns-else-le-clause-behind
returns-else-le-clause-behind c =
    let facts = c.args.facts.now in
    let day = c.args.day in
    let high = c.loop-high.high in
    let e = c.index-facts-high.result in
    let within : high < length facts = c.loop-high-test.true in
    let late : day < e.0.day = search rules in
    later_behind day high facts c.requires.ordered
    (λ d. same_within (λ x. nat_le x.0.day day ≡ false) facts high e d c.index-facts-high.is within (lt-leb e.0.day day late))
