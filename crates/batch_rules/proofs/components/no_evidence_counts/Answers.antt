use Rattle.std.proofs.Common.{◌≡◌, not, sym, ap, ◌∙◌}
use Rattle.fact_kinds.specs.declared.body.FactBody.TheVariants.{Indication}
use Rattle.fact_kinds.specs.declared.body.Sort.{Sort}
use Rattle.ldar_law.specs.Denials as law
use Rattle.ldar_law.specs.Standing as standing
use Rattle.batch_rules.specs.KindsAndClasses.{is_so}
use Rattle.batch_rules.proofs.CaseLemmas.{indication_is}
use Rattle.batch_rules.proofs.components.no_evidence_counts.Goals as goal

pub returns-then-is_of_evidence : goal.returns-then-is_of_evidence
returns-then-is_of_evidence c =
    let case = c.args.case.now in
    let says : case.entry.1.body ≡ Indication c.in-Indication.component c.in-Indication.sort c.in-Indication.present = sym c.body.ensures.value
    ∙ c.in-Indication.is in
    let asks = sym c.is_of_evidence.ensures.value ∙ c.if-is_of_evidence.true in
    record {
      value = c.is_without_evidence.ensures.value
          ∙ ap (is_so (law.is_not_under standing.are_heavy_liquid_rules)) c.asked.ensures.value
          ∙ sym (indication_is case c.in-Indication.component c.in-Indication.sort c.in-Indication.present (λ (sort : Sort). not (law.is_of_sensor sort))
          (law.is_not_under standing.are_heavy_liquid_rules) says asks);
    }
