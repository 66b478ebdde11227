use Rattle.std.proofs.Common.{◌≡◌, IfOk, ◌∙◌, subst}
use Rattle.ldar_law.specs.Texts.{tags_text}
use Rattle.office_views.proofs.answers.tags_on.Goals as goal

pub returns : goal.returns
returns c = record {
  value = subst (λ listed. IfOk c.tags_text.result (λ text. text ≡ tags_text c.args.unit c.args.source.now.day listed))
      (c.deref.ensures.value ∙ c.in_ok-listed.ensures.value) c.tags_text.ensures.value;
}
