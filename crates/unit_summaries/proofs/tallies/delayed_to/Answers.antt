use Rattle.std.proofs.Common.{◌+◌, ◌++◌, ℕ, Bool, map, ap, ◌∙◌, arith}
use Rattle.list_words.specs.Ranges.{until}
use Rattle.ldar_law.specs.Percent.{has_delay_on, judging_day}
use Rattle.skip_periods.proofs.PassLemmas.{map_until, map_done}
use Rattle.unit_summaries.proofs.tallies.delayed_to.Goals as goal

pub loop-past-preserved : goal.loop-past-preserved
loop-past-preserved c =
    let a = c.args in
    let l = c.loop-past in
    let told : ℕ → Bool = λ q. has_delay_on (judging_day a.startup q a.day) a.tags.now in
    ap (λ ds. ds ++ map told (until (l.past + 1 + 1) (a.quarter + 1))) c.in_ok-push.ensures.items
    ∙ map_until told l.delayed.items (l.past + 1) (a.quarter + 1) c.has_delay_on.result (omega arith)
    (c.has_delay_on.ensures.value ∙ ap (λ d. has_delay_on d a.tags.now) c.judging_day.ensures.value) ∙ l.invariant

pub returns : goal.returns
returns c =
    let a = c.args in
    let l = c.loop-past in
    record {
      value = map_done (λ q. has_delay_on (judging_day a.startup q a.day) a.tags.now) l.delayed.items _ (l.past + 1) (a.quarter + 1) (omega arith) l.invariant;
    }
