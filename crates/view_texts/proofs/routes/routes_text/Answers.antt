use Rattle.std.proofs.Common.{◌∙◌}
use Rattle.view_texts.proofs.TextLemmas.{text_made}
use Rattle.view_texts.proofs.routes.routes_text.Goals as goal

pub returns : goal.returns
returns c = record {
  value = c.shown.ensures.value
      ∙ text_made _ _ _ _ _ _ c.in_ok-text.ensures.value c.in_ok-put_each.ensures.value c.in_ok-put_end.ensures.value;
}
