use Rattle.std.proofs.Common.{◌≡◌, true, sym, ap, ◌∙◌, arith}
use Rattle.std.specs.Option.{is_some}
use Rattle.ldar_law.specs.Equipment.{unit_entered}
use Rattle.batch_rules.proofs.KnownLemmas.{first_from_here, none_from_here}
use Rattle.batch_rules.proofs.known_facts.first_unit.Goals as goal

pub returns-then-is_some : goal.returns-then-is_some
returns-then-is_some c =
    let fact = c.fact-item.result in
    let given : c.unit_entered-entry.result ≡ unit_entered c.args.unit fact.day fact.body = c.unit_entered-entry.ensures.value ∙ ap
    (λ s. unit_entered c.args.unit s.day s.body) c.fact.view_is in
    let some : is_some (unit_entered c.args.unit fact.day fact.body) ≡ true = ap is_some (sym given) ∙ sym c.is_some.ensures ∙ c.if-is_some.true in
    record {
      value = given ∙ sym (c.loop-fact.invariant
          ∙ first_from_here (λ f. unit_entered c.args.unit f.day f.body) c.args.facts.now c.loop-fact.fact-index fact
          (omega (arith, c.loop-fact-test.true)) c.fact-item.is some);
    }

pub returns : goal.returns
returns c =
    record {
      value = sym (c.loop-fact.invariant
          ∙ none_from_here (λ f. unit_entered c.args.unit f.day f.body) c.args.facts.now c.loop-fact.fact-index (omega (arith, c.loop-fact-test.false)));
    }
