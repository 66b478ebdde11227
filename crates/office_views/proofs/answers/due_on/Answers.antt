use Rattle.std.proofs.Common.{◌≡◌, IfOk, ◌∙◌, subst}
use Rattle.ldar_law.specs.Texts.{due_text}
use Rattle.office_views.proofs.answers.due_on.Goals as goal

pub returns : goal.returns
returns c = record {
  value = subst (λ listed. IfOk c.due_text.result (λ text. text ≡ due_text c.args.unit c.args.source.now.day listed))
      (c.deref.ensures.value ∙ c.in_ok-listed.ensures.value) c.due_text.ensures.value;
}
