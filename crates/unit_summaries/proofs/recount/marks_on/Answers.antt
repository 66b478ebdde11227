use Rattle.std.proofs.Common.{◌≡◌, ℕ, None, sym, ap, ◌∙◌}
use Rattle.std.proofs.lemmas.Result.{IfOk-weaker}
use Rattle.unit_summaries.specs.Kept.{known_from, marks_by}
use Rattle.unit_summaries.proofs.KnownLemmas.{known_from_none, known_in_order}
use Rattle.unit_summaries.proofs.recount.marks_on.Goals as goal

pub marks_of-requires-clause-ordered : goal.marks_of-requires-clause-ordered
marks_of-requires-clause-ordered c = known_in_order c.args.day c.args.summary.now c.in-Some.known c.requires.orderly c.in-Some.ensures.known

pub returns-in-None : goal.returns-in-None
returns-in-None c =
    let a = c.args in
    record {
      value = IfOk-weaker c.no_marks.result (λ marks. (startup day : ℕ) → marks.items ≡ marks_by startup day None a.quarters)
          (λ marks. marks.items ≡ marks_by a.startup a.day (known_from a.day a.stops.now a.summary.now) a.quarters)
          (λ marks is. is a.startup a.day
          ∙ ap (λ o. marks_by a.startup a.day o a.quarters) (sym (known_from_none a.day a.summary.now a.stops.now c.in-None.ensures.known)))
          c.no_marks.ensures.value;
    }
