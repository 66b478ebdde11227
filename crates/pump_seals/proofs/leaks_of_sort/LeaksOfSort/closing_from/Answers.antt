use Rattle.std.proofs.Common.{◌≡◌, ◌<◌, length, true, false, sym, ◌∙◌}
use Rattle.pump_seals.specs.Walked as spec
use Rattle.pump_seals.proofs.WalkLemmas.{closing_last, closing_next}
use Rattle.pump_seals.proofs.leaks_of_sort.LeaksOfSort.closing_from.Goals as goal

pub loop-last-preserved : goal.loop-last-preserved
loop-last-preserved c =
    let p = c.args.self.now in
    let last = c.loop-last.last in
    let on : spec.runs_on p last ≡ true = sym c.runs_on.ensures.value ∙ c.loop-last-test.true in
    (c.runs_on.ensures.more c.loop-last-test.true, c.loop-last.invariant.1 ∙ closing_next p c.requires.ordered last on)

pub returns : goal.returns
returns c =
    let p = c.args.self.now in
    let last = c.loop-last.last in
    let off : spec.runs_on p last ≡ false = sym c.runs_on.ensures.value ∙ c.loop-last-test.false in
    record {
      value = c.first_mend.ensures.value
          ∙ sym (closing_last p c.requires.ordered last c.index-self-last.result c.loop-last.invariant.0 off)
          ∙ sym c.loop-last.invariant.1;
    }
