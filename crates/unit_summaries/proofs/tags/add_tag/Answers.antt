use Rattle.std.proofs.Common.{◌++◌, [], ◌∷◌, ap, ◌∙◌}
use Rattle.unit_summaries.proofs.TagLemmas.{tag_is}
use Rattle.unit_summaries.proofs.tags.add_tag.Goals as goal

pub returns : goal.returns
returns c = record {
  put = λ events days delays.
      c.in_ok-push.ensures.items
      ∙ ap (λ t. c.args.tags.now.items ++ t ∷ [])
      (tag_is c.args.component events c.args.stops.now c.args.span.now c.args.attempts.now c.args.delays.now c.attempt_by.result
      c.repair_of-repair.result.due c.repair_of-repair.result.counted c.delay_at.result c.closed_on.result days delays c.attempt_by.ensures.value
      c.repair_of-repair.ensures.due c.repair_of-repair.ensures.counted c.delay_at.ensures.value c.closed_on.ensures.value);
}
