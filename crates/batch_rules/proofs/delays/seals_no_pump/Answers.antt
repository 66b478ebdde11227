use Rattle.std.proofs.Common.{◌≡◌, not, sym, ap, ◌∙◌}
use Rattle.fact_kinds.specs.declared.body.FactBody.TheVariants.{Delay}
use Rattle.ldar_law.specs.Kinds as kinds
use Rattle.batch_rules.specs.KindsAndClasses.{is_so}
use Rattle.batch_rules.proofs.CaseLemmas.{delay_is}
use Rattle.batch_rules.proofs.delays.seals_no_pump.Goals as goal

pub returns-then-ground-eq-NEEDS_DUAL_SEAL : goal.returns-then-ground-eq-NEEDS_DUAL_SEAL
returns-then-ground-eq-NEEDS_DUAL_SEAL c =
    let case = c.args.case.now in
    let says : case.entry.1.body ≡ Delay c.in-Delay.component c.in-Delay.ground c.in-Delay.signer c.in-Delay.expected = sym c.body.ensures.value
    ∙ c.in-Delay.is in
    record {
      value = c.is_no_pump.ensures.value ∙ ap (is_so (λ kind _. not (kinds.is_pump kind))) c.asked.ensures.value
          ∙ sym (delay_is case c.in-Delay.component c.in-Delay.ground c.in-Delay.signer c.in-Delay.expected 4 kinds.is_pump says
          c.if-ground-eq-NEEDS_DUAL_SEAL.true);
    }
