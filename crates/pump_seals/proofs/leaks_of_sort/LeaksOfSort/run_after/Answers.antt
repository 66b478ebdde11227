use Rattle.std.proofs.Common.{◌≡◌, ◌+◌, true, false, get_or, refl, sym, ◌∙◌}
use Rattle.pump_seals.specs.Walked as spec
use Rattle.pump_seals.proofs.WalkLemmas.{run_new, run_stays}
use Rattle.pump_seals.proofs.leaks_of_sort.LeaksOfSort.run_after.Goals as goal

pub returns-then-runs_on : goal.returns-then-runs_on
returns-then-runs_on c =
    let p = c.args.self.now in
    let on : spec.runs_on p c.args.place ≡ true = sym c.runs_on.ensures.value ∙ c.if-runs_on.true in
    record { value = run_stays p c.requires.ordered c.args.run.now c.args.place on c.requires.run }

pub returns : goal.returns
returns c =
    let p = c.args.self.now in
    let off : spec.runs_on p c.args.place ≡ false = sym c.runs_on.ensures.value ∙ c.if-runs_on.false in
    record {
      value = run_new p c.requires.ordered
          (record { first = get_or p.leaks.now (c.args.place + 1) c.index-self-place.result; closed = c.closing_from.result }) c.args.place
          c.index-self-place.result c.requires.in_range off c.index-self-place.result refl c.closing_from.ensures.value;
    }
