use Rattle.std.proofs.Common.{◌≡◌, sym, ap, ◌∙◌}
use Rattle.fact_kinds.specs.declared.body.FactBody.TheVariants.{Release}
use Rattle.ldar_law.specs.Denials as law
use Rattle.ldar_law.specs.Standing as standing
use Rattle.batch_rules.specs.KindsAndClasses.{is_so}
use Rattle.batch_rules.proofs.CaseLemmas.{release_is}
use Rattle.batch_rules.proofs.components.no_relief_device.Goals as goal

pub returns-in-Release : goal.returns-in-Release
returns-in-Release c =
    let case = c.args.case.now in
    let says : case.entry.1.body ≡ Release c.in-Release.component = sym c.body.ensures.value ∙ c.in-Release.is in
    record {
      value = c.is_no_gas_relief.ensures.value ∙ ap (is_so (law.is_not_under standing.are_relief_rules)) c.asked.ensures.value
          ∙ sym (release_is case c.in-Release.component (law.is_not_under standing.are_relief_rules) says);
    }
