use Rattle.std.proofs.Common.{◌≡◌, Some, sym, ap, ◌∙◌}
use Rattle.ldar_law.specs.Denials as law
use Rattle.batch_rules.specs.KindsAndClasses.{is_so}
use Rattle.batch_rules.proofs.CaseLemmas.{so_asked, looked_is_asked}
use Rattle.batch_rules.proofs.components.looked_under_300_hours.Goals as goal

pub returns-in-Some : goal.returns-in-Some
returns-in-Some c =
    let case = c.args.case.now in
    let looks : law.component_looked_at case.entry.1.body ≡ Some c.in-Some.field-0 =
    ap law.component_looked_at (sym c.body.ensures.value) ∙ sym c.component_looked_at.ensures.value ∙ c.in-Some.is in
    let asks = looked_is_asked case.entry.1.body c.in-Some.field-0 looks in
    record {
      value = c.is_under_300.ensures.value
          ∙ ap (is_so (λ kind class. law.is_under_300 class.service)) c.asked.ensures.value
          ∙ sym (rw (looks, law.looked_under_300_hours) (so_asked case c.in-Some.field-0 asks (λ kind class. law.is_under_300 class.service)));
    }
