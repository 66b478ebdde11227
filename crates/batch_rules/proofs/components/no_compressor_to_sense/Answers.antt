use Rattle.std.proofs.Common.{◌≡◌, sym, ap, ◌∙◌}
use Rattle.fact_kinds.specs.declared.body.FactBody.TheVariants.{Indication}
use Rattle.ldar_law.specs.Denials as law
use Rattle.ldar_law.specs.Standing as standing
use Rattle.batch_rules.specs.KindsAndClasses.{is_so}
use Rattle.batch_rules.proofs.CaseLemmas.{indication_is}
use Rattle.batch_rules.proofs.components.no_compressor_to_sense.Goals as goal

pub returns-then-is_of_sensor : goal.returns-then-is_of_sensor
returns-then-is_of_sensor c =
    let case = c.args.case.now in
    let says : case.entry.1.body ≡ Indication c.in-Indication.component c.in-Indication.sort c.in-Indication.present = sym c.body.ensures.value
    ∙ c.in-Indication.is in
    let asks = sym c.is_of_sensor.ensures.value ∙ c.if-is_of_sensor.true in
    record {
      value = c.is_no_gas_compressor.ensures.value
          ∙ ap (is_so (law.is_not_under standing.are_compressor_rules)) c.asked.ensures.value
          ∙ sym (indication_is case c.in-Indication.component c.in-Indication.sort c.in-Indication.present law.is_of_sensor
          (law.is_not_under standing.are_compressor_rules) says asks);
    }
