use Rattle.std.proofs.Common.{None, inr, refl, sym, ◌∙◌}
use Rattle.office_commands.specs.declared.status.Status.TheVariants.{Usage}
use Rattle.office_commands.proofs.TaskLemmas.{ends_for}
use Rattle.office_commands.proofs.program.run_over.Goals as goal

pub returns-in-Ok-None-clause-ends : goal.returns-in-Ok-None-clause-ends
returns-in-Ok-None-clause-ends g c =
    inr (ends_for None _ Usage _ _ _ _ (sym c.in-Ok-None.field-0-is ∙ c.in-Ok-None.ensures.value) (refl, (refl, refl)))
