use Rattle.std.proofs.Common.{[], ◌∷◌, codes}
use Rattle.std.specs.Fmt.{decimal}
use Rattle.std.specs.Prelude.{string_bytes}
use Rattle.ldar_days.specs.Texts.{day_text}
use Rattle.ldar_law.specs.Texts.{end_of_line}
use Rattle.view_texts.proofs.TextLemmas.{line_made}
use Rattle.view_texts.proofs.routes.begun.Goals as goal

pub returns : goal.returns
returns c = record {
  value = line_made c.format.result (λ text. string_bytes text) (codes "route ") (
      decimal c.args.unit ∷ codes " " ∷ day_text c.args.day ∷ codes " " ∷ decimal c.args.stops ∷ end_of_line ∷ []) c.format.ensures.ok;
}
