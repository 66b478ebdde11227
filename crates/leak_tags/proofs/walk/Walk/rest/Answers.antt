use Rattle.std.proofs.Common.{[], ◌∷◌, length, sym, ap, ◌∙◌}
use Rattle.leak_tags.specs.Walking.{rest_of}
use Rattle.leak_tags.proofs.WalkLemmas.{rest_end}
use Rattle.leak_tags.proofs.walk.Walk.rest.Goals as goal

pub returns-in-Some : goal.returns-in-Some
returns-in-Some c = record {
  value = λ kind events.
      ap (λ span. span ∷ []) (c.unclosed.ensures.value kind events)
      ∙ sym (ap (λ tag. rest_of kind events tag (length events)) c.in-Some.is ∙ rest_end kind events c.in-Some.tag);
}
