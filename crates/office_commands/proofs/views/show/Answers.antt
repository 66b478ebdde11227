use Rattle.std.proofs.Common.{◌≡◌, ℕ, List, Some, refl, sym, ap, subst, ◌∙◌}
use Rattle.ldar_law.specs.declared.reply.Reply.TheVariants.{Shown, NoSuch}
use Rattle.office_views.specs.Answers.{reply_of}
use Rattle.office_commands.specs.Statuses.{TextEnds}
use Rattle.office_commands.proofs.views.show.Goals as goal

-- a text
pub returns-in-Ok-Text-clause-ends : goal.returns-in-Ok-Text-clause-ends
returns-in-Ok-Text-clause-ends g c =
    let is = c.in-Ok-Text.ensures.value in
    let pieces = g.K.Sink.pieces in
    let same : c.as_bytes.result.now ≡ c.in-Ok-Text.text = cc in (
      Shown c.in-Ok-Text.text,
      is.1 ∙ ap Some (sym is.2) ∙ ap (λ x. Some (reply_of x)) c.in-Ok-Text.field-0-is,
      subst (λ (l : List ℕ). TextEnds l c.put_text.result (pieces c.args.output.now) (pieces c.put_text.new.output)) same c.put_text.ensures.ends,
    )

-- none of what was asked for
pub returns-in-Ok-NoSuch-clause-ends : goal.returns-in-Ok-NoSuch-clause-ends
returns-in-Ok-NoSuch-clause-ends g c =
    let is = c.in-Ok-NoSuch.ensures.value in (
      NoSuch c.in-Ok-NoSuch.what,
      is.1 ∙ ap Some (sym is.2) ∙ ap (λ x. Some (reply_of x)) c.in-Ok-NoSuch.field-0-is,
      (refl, refl),
    )

-- no memory for a text
pub returns-in-Err-clause-ends : goal.returns-in-Err-clause-ends
returns-in-Err-clause-ends g c = let is = c.in-Err.ensures.value in (Shown is.2.0, is.1 ∙ ap Some is.2.1, refl)
