use Rattle.std.proofs.Common.{◌≡◌, IfOk, ◌∙◌, subst}
use Rattle.ldar_law.specs.Texts.{delays_text}
use Rattle.office_views.proofs.answers.delays_on.Goals as goal

pub returns : goal.returns
returns c = record {
  value = subst (λ listed. IfOk c.delays_text.result (λ text. text ≡ delays_text c.args.unit c.args.source.now.day listed))
      (c.deref.ensures.value ∙ c.in_ok-listed.ensures.value) c.delays_text.ensures.value;
}
