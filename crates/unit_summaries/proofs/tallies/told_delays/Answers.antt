use Rattle.std.proofs.Common.{◌≡◌, map, sym, ◌∙◌, subst}
use Rattle.std.proofs.lemmas.Result.{IfOk-weaker}
use Rattle.list_words.specs.Ranges.{from_to}
use Rattle.ldar_law.specs.Percent.{has_delay_on, judging_day}
use Rattle.unit_summaries.specs.Tallied.{TellDelays}
use Rattle.unit_summaries.proofs.TallyLemmas.{told_of_all, told_of_none}
use Rattle.unit_summaries.proofs.tallies.told_delays.Goals as goal

pub returns-then-not-has_delay : goal.returns-then-not-has_delay
returns-then-not-has_delay c =
    let a = c.args in
    record {
      value = subst (λ ds. TellDelays a.startup a.quarter a.day a.tags.now ds) (sym c.new.ensures.items)
          (told_of_none a.startup a.day a.quarter a.tags.now (sym c.has_delay.ensures.value ∙ c.if-not-has_delay.true));
    }

pub returns : goal.returns
returns c =
    let a = c.args in
    record {
      value = IfOk-weaker c.delayed_to.result
          (λ delayed. delayed.items ≡ map (λ q. has_delay_on (judging_day a.startup q a.day) a.tags.now) (from_to 1 a.quarter))
          (λ delayed. TellDelays a.startup a.quarter a.day a.tags.now delayed.items)
          (λ delayed is. told_of_all a.startup a.day a.quarter a.tags.now delayed.items is) c.delayed_to.ensures.value;
    }
