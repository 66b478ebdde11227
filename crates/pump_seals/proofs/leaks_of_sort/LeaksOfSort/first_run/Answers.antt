use Rattle.std.proofs.Common.{get_or, refl}
use Rattle.pump_seals.proofs.WalkLemmas.{run_at_first}
use Rattle.pump_seals.proofs.leaks_of_sort.LeaksOfSort.first_run.Goals as goal

pub returns : goal.returns
returns c =
    let p = c.args.self.now in
    record {
      value = run_at_first p c.requires.ordered (record { first = get_or p.leaks.now 0 c.index-self-0.result; closed = c.closing_from.result })
          c.index-self-0.result refl c.closing_from.ensures.value;
    }
