use Rattle.std.proofs.Common.{◌≡◌, sym, ap, ◌∙◌}
use Rattle.fact_kinds.specs.declared.body.FactBody.TheVariants.{Visual}
use Rattle.ldar_law.specs.Denials as law
use Rattle.ldar_law.specs.Standing as standing
use Rattle.batch_rules.specs.KindsAndClasses.{is_so}
use Rattle.batch_rules.proofs.CaseLemmas.{visual_is}
use Rattle.batch_rules.proofs.components.no_pump_to_see.Goals as goal

pub returns-in-Visual : goal.returns-in-Visual
returns-in-Visual c =
    let case = c.args.case.now in
    let says : case.entry.1.body ≡ Visual c.in-Visual.component c.in-Visual.state = sym c.body.ensures.value ∙ c.in-Visual.is in
    record {
      value = c.is_no_light_pump.ensures.value ∙ ap (is_so (law.is_not_under standing.are_pump_rules)) c.asked.ensures.value
          ∙ sym (visual_is case c.in-Visual.component c.in-Visual.state (law.is_not_under standing.are_pump_rules) says);
    }
