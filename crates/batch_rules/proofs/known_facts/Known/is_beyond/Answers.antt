use Rattle.std.proofs.Common.{◌≡◌, true, Some, ap, ◌∙◌, sym, arith}
use Rattle.std.proofs.lemmas.Bool.Decides.{nat_tests}
use Rattle.batch_rules.specs.Among.{are_up_to}
use Rattle.batch_rules.proofs.KnownLemmas.{none_beyond}
use Rattle.batch_rules.proofs.known_facts.Known.is_beyond.Goals as goal

pub returns-in-Some : goal.returns-in-Some
returns-in-Some c =
    let known = c.args.self.now in
    let up_to : are_up_to (Some c.in-Some.greatest) known.front.now ≡ true = ap (λ o. are_up_to o known.front.now) (sym c.in-Some.is) ∙ known.up_to in
    record { new = λ above. none_beyond c.args.component c.in-Some.greatest known.front.now up_to (grind (arith, nat_tests)) }
