use Rattle.std.proofs.Common.{◌≡◌, Option, None, true, sym, ap, ◌∙◌, arith}
use Rattle.std.specs.Option.{is_some}
use Rattle.fact_kinds.specs.Stated.{Stated}
use Rattle.ldar_law.specs.declared.equipment.Equipment.{Equipment}
use Rattle.ldar_law.specs.Equipment.{component_entered}
use Rattle.batch_rules.proofs.KnownLemmas.{first_from_here, none_from_here}
use Rattle.batch_rules.proofs.known_facts.first_component.Goals as goal

pub returns-then-enters : goal.returns-then-enters
returns-then-enters c =
    let fact = c.fact-item.result in
    let entered : Stated → Option Equipment = λ s. component_entered c.args.component None s.day s.body in
    let some : is_some (entered fact) ≡ true =
    ap (λ s. is_some (entered s)) (sym c.fact.view_is) ∙ c.enters.ensures.value c.fact.inside.day ∙ c.if-enters.true in
    record {
      value = c.component_entered.ensures.value ∙ ap entered c.fact.view_is ∙ sym (c.loop-fact.invariant
          ∙ first_from_here entered c.args.facts.now c.loop-fact.fact-index fact (omega (arith, c.loop-fact-test.true)) c.fact-item.is some);
    }

pub returns : goal.returns
returns c =
    record {
      value = sym (c.loop-fact.invariant
          ∙ none_from_here (λ f. component_entered c.args.component None f.day f.body) c.args.facts.now c.loop-fact.fact-index
          (omega (arith, c.loop-fact-test.false)));
    }
