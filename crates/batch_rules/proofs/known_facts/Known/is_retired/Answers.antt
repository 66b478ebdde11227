use Rattle.std.proofs.Common.{◌||◌, sym, ap, ◌∙◌}
use Rattle.ldar_law.specs.Force as force
use Rattle.batch_rules.specs.Among.{retired_among}
use Rattle.batch_rules.proofs.KnownLemmas.{known_retired}
use Rattle.batch_rules.proofs.known_facts.Known.is_retired.Goals as goal

pub returns-then-has_come : goal.returns-then-has_come
returns-then-has_come c =
    let known = c.args.self.now in
    let retired = retired_among c.args.component c.args.day known.front.now in
    let was = c.has_come.ensures.value ∙ ap (λ first. force.has_come first c.args.day) c.retired_on.ensures.value in
    record {
      value = c.if-has_come.true
          ∙ sym (known_retired known.register.now.arrived _ c.args.component c.args.day ∙ ap (λ b. b || retired) (sym was ∙ c.if-has_come.true));
    }

pub returns-else-has_come : goal.returns-else-has_come
returns-else-has_come c =
    let known = c.args.self.now in
    let retired = retired_among c.args.component c.args.day known.front.now in
    let was = c.has_come.ensures.value ∙ ap (λ first. force.has_come first c.args.day) c.retired_on.ensures.value in
    record {
      value = c.is_retired_among.ensures.value
          ∙ sym (known_retired known.register.now.arrived _ c.args.component c.args.day ∙ ap (λ b. b || retired) (sym was ∙ c.if-has_come.false));
    }
