use Rattle.std.proofs.Common.{sym, ap, ◌∙◌}
use Rattle.std.specs.Option.{option_map, option_or}
use Rattle.fact_store.specs.Kept.{facts_in}
use Rattle.ldar_law.specs.BatchLaws.{unretired}
use Rattle.batch_rules.specs.Among.{entered_among}
use Rattle.batch_rules.proofs.KnownLemmas.{known_component}
use Rattle.batch_rules.proofs.known_facts.Known.component.Goals as goal

pub returns-in-Some : goal.returns-in-Some
returns-in-Some c =
    let known = c.args.self.now in
    let is = sym c.component.ensures.value ∙ c.in-Some.is in
    record {
      value = sym (known_component (facts_in known.register.now) _ c.args.component
          ∙ ap (λ o. option_or (option_map unretired o) (entered_among c.args.component known.front.now)) is);
    }

pub returns-in-None : goal.returns-in-None
returns-in-None c =
    let known = c.args.self.now in
    let is = sym c.component.ensures.value ∙ c.in-None.is in
    record {
      value = c.first_component.ensures.value
          ∙ sym (known_component (facts_in known.register.now) _ c.args.component
          ∙ ap (λ o. option_or (option_map unretired o) (entered_among c.args.component known.front.now)) is);
    }
