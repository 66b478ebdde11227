use Rattle.std.proofs.Common.{rules, replicate, ap, ◌∙◌}
use Rattle.unit_summaries.proofs.RecountLemmas.{no_marks_are}
use Rattle.unit_summaries.proofs.TallyLemmas.{no_mark}
use Rattle.unit_summaries.proofs.recount.no_marks.Goals as goal

pub returns : goal.returns
returns c = record {
  value = λ startup day.
      c.in_ok-marks.ensures.items_if_clones_equal (search rules) ∙ ap (λ n. replicate n no_mark) c.from.ensures
      ∙ no_marks_are startup day c.args.quarters;
}
