use Rattle.std.proofs.Common.{◌≡◌, ℕ, None, option_and_then, option_map, sym, ap, ◌∙◌}
use Rattle.std.proofs.lemmas.Result.{IfOk-weaker}
use Rattle.unit_summaries.specs.Kept.{known_from, marks_by}
use Rattle.unit_summaries.proofs.recount.marks_before.Goals as goal

pub returns-in-None : goal.returns-in-None
returns-in-None c =
    let a = c.args in
    record {
      value = IfOk-weaker c.no_marks.result (λ marks. (startup day : ℕ) → marks.items ≡ marks_by startup day None a.quarters)
          (λ marks. marks.items
          ≡ marks_by a.startup a.day (option_and_then (known_from a.day a.stops.now) (option_map (λ s. s.now) a.summary)) a.quarters)
          (λ marks is. is a.startup a.day
          ∙ ap (λ o. marks_by a.startup a.day (option_and_then (known_from a.day a.stops.now) (option_map (λ s. s.now) o)) a.quarters)
          (sym c.in-None.is))
          c.no_marks.ensures.value;
    }
