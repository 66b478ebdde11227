use Rattle.std.proofs.Common.{sym, ap, ◌∙◌}
use Rattle.std.specs.Option.{option_or}
use Rattle.fact_store.specs.Kept.{facts_in}
use Rattle.batch_rules.specs.Among.{unit_among}
use Rattle.batch_rules.proofs.KnownLemmas.{known_unit}
use Rattle.batch_rules.proofs.known_facts.Known.unit.Goals as goal

pub returns-in-Some : goal.returns-in-Some
returns-in-Some c =
    let known = c.args.self.now in
    let is = sym c.unit.ensures.value ∙ c.in-Some.is in
    record {
      value = sym (known_unit (facts_in known.register.now) _ c.args.unit ∙ ap (λ o. option_or o (unit_among c.args.unit known.front.now)) is);
    }

pub returns-in-None : goal.returns-in-None
returns-in-None c =
    let known = c.args.self.now in
    let is = sym c.unit.ensures.value ∙ c.in-None.is in
    record {
      value = c.first_unit.ensures.value
          ∙ sym (known_unit (facts_in known.register.now) _ c.args.unit ∙ ap (λ o. option_or o (unit_among c.args.unit known.front.now)) is);
    }
