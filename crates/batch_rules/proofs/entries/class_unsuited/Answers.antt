use Rattle.std.proofs.Common.{◌≡◌, not, sym, ap, ◌∙◌}
use Rattle.fact_kinds.specs.declared.body.FactBody.TheVariants.{Class as ClassFact}
use Rattle.ldar_law.specs.Denials as law
use Rattle.batch_rules.specs.KindsAndClasses.{is_so}
use Rattle.batch_rules.proofs.CaseLemmas.{class_is}
use Rattle.batch_rules.proofs.entries.class_unsuited.Goals as goal

pub returns-in-Class : goal.returns-in-Class
returns-in-Class c =
    let case = c.args.case.now in
    let says : case.entry.1.body ≡ ClassFact c.in-Class.component c.in-Class.class = sym c.body.ensures.value ∙ c.in-Class.is in
    record {
      value = c.is_unsuited.ensures.value ∙ ap (is_so (λ kind _. not (law.suits kind c.in-Class.class))) c.asked.ensures.value
          ∙ sym (class_is case c.in-Class.component c.in-Class.class says);
    }
